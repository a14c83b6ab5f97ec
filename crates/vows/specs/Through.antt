-- The same runs through C: a session begun by `mailindex_begin` and shown window upon window by `mailindex_show`, whatever exits of the two meet their contracts.
-- Assumes nothing.
use Rattle.std.specs.Prelude.{◌≡◌, List, [], ◌∷◌, ◌++◌, map, ℕ, get_or, drop}
use Rattle.mailindex.specs.Exports.{BeginsWith, Showing, shown_of}
use Rattle.rules.specs.declared.Entry.{Entry}
use Rattle.rules.specs.declared.Settings.{Settings}
use Rattle.vows.specs.Vows.{Call, Runs}

-- between windows the caller has the session's numbers and copies, the table, and the bytes shown that were not taken
pub record Held : Type 0 where
  pub numbers : List ℕ
  pub copies : List ℕ
  pub table : List ℕ
  pub untaken : List ℕ

-- a call's exit of `mailindex_show`
pub record Exit : Type 0 where
  pub numbers : List ℕ
  pub copies : List ℕ
  pub table : List ℕ
  pub answer : List ℕ

-- answer[3] is how many bytes were taken
abbrev pub behind : Held → List ℕ → Exit → Held
behind x w g = record { numbers = g.numbers; copies = g.copies; table = g.table; untaken = drop (get_or g.answer 3 0) (x.untaken ++ w) }

pub data CallsFrom : Held → List (List ℕ) → List Exit → Type 0 where
  none : {x : Held} → CallsFrom x [] []
  call : {x : Held} {ws : List (List ℕ)} {gs : List Exit} (w : List ℕ) (g : Exit)
      → Showing x.numbers x.copies (x.untaken ++ w) x.table g.numbers g.copies g.table g.answer
      → CallsFrom (behind x w g) ws gs → CallsFrom x (w ∷ ws) (g ∷ gs)

-- a session of entry e with these settings is begun, the table being t; the windows bring the bytes ws
pub record RunsThrough (set : Settings) (e : Entry) (t : List ℕ) (ws : List (List ℕ)) (gs : List Exit) : Type 0 where
  pub numbers : List ℕ
  pub copies : List ℕ
  pub result : ℕ
  pub begun : BeginsWith set e numbers copies result
  pub calls : CallsFrom (record { numbers = numbers; copies = copies; table = t; untaken = [] }) ws gs

-- what a caller sees of an exit: the answer's four numbers, and the table
pub record Seen : Type 0 where
  pub answer : List ℕ
  pub table : List ℕ

abbrev pub seen : Exit → Seen
seen g = record { answer = g.answer; table = g.table }

abbrev pub seen_of : Call → Seen
seen_of c = record { answer = shown_of c.gives.answer c.gives.taken; table = c.table }

-- exits of `begin` and `show` of which a caller sees the same
pub record SameRun (set : Settings) (e : Entry) (t : List ℕ) (ws : List (List ℕ)) (gs : List Exit) : Type 0 where
  pub calls : List Call
  pub run : Runs set e t ws calls
  pub same : map seen_of calls ≡ map seen gs
