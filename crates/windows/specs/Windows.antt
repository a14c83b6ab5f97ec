-- Sessions by windows: request W2, in its order. The record between windows, what a window comes to, and windows one after another.
-- Assumes nothing.
use Rattle.std.specs.Prelude.{Bool, true, false, cond, not, ◌||◌, List, [], ◌∷◌, ◌++◌, ℕ, ◌+◌, ◌-◌, eqb, ltb, length, drop}
use Rattle.events.specs.Events.{result_number}
use Rattle.events.specs.Table.{Final, final, no_events, Poured, all, full, pour}
use Rattle.events.specs.declared.Log.{Log}
use Rattle.events.specs.declared.Outcome.{Outcome}
use Rattle.events.specs.declared.Outcome.TheVariants.{Done, TooLong, TableFull}
use Rattle.rules.specs.Machine.{Ran}
use Rattle.rules.specs.Phases.{Phase, reads, ends}
use Rattle.rules.specs.Sessions.{limit}
use Rattle.rules.specs.declared.Settings.{Settings}
use Rattle.windows.specs.Stands.{Stand, fresh, in_preamble, in_content, in_literal, enters, pieces, stand_result, stand_place}

-- the record between windows: where the session stands, how many bytes are taken, and what its writer knows
pub record Record : Type 0 where
  pub stand : Stand
  pub at : ℕ
  pub log : Log

-- a session is begun once
abbrev pub begins : Phase → Record
begins start = record { stand = enters start 0; at = 0; log = no_events }

-- what is answered: offsets count from the session's start
unfoldable pub said : Record → List ℕ → Final
said r t = final t (stand_result r.stand) (stand_place r.stand r.at) r.log.count

-- done, or a refusal
unfoldable pub over : Stand → Bool
over (fresh (reads ph)) = false
over (fresh (ends r p)) = true
over (in_preamble m b os from here) = false
over (in_content m e b os from here) = false
over (in_literal e from left) = false

-- a window takes all that was read, also where it is done; a refusal takes nothing
unfoldable pub keeps : Stand → Bool
keeps f = not (over f) || eqb (result_number (stand_result f)) (result_number Done)

-- what a window comes to
pub record Shown : Type 0 where
  pub next : Record
  pub table : List ℕ

-- a refusal; `base` is the session's place of the window's first byte
unfoldable pub refused : (base : ℕ) → List ℕ → Outcome → (place : ℕ) → Log → Shown
refused base t o p log = record { next = record { stand = fresh (ends o p); at = base; log = log }; table = t }

-- a window was read, and its events poured
unfoldable pub landed : (base : ℕ) → Ran Stand → Poured → Shown
landed base o (all t log) = record { next = record { stand = o.state; at = cond (keeps o.state) o.at base; log = log }; table = t }
landed base o (full t q log) = refused base t TableFull q log

unfoldable pub lands : (base : ℕ) → List ℕ → Log → Ran Stand → Shown
lands base t log o = landed base o (pour o.events t log)

-- the window w of a session with these settings, the table being t. After an end nothing is taken, and the answer stays. The limit is on the session:
-- 2 before the window is read
unfoldable pub window : Settings → Record → List ℕ → List ℕ → Shown
window set r t w =
    cond (over r.stand) (record { next = r; table = t })
    (cond (ltb limit (r.at + length w)) (refused r.at t TooLong 0 r.log)
    (lands r.at t r.log (pieces set r.stand r.at w)))

-- how many of its bytes it took
unfoldable pub taken : Record → Shown → ℕ
taken r g = g.next.at - r.at

-- ---- windows one after another: each shows the untaken bytes again at its front, and new ones behind them
pub record Tap : Type 0 where
  pub settings : Settings
  pub session : Record
  pub table : List ℕ
  pub untaken : List ℕ

abbrev pub tapped : Settings → Phase → List ℕ → Tap
tapped set start t = record { settings = set; session = begins start; table = t; untaken = [] }

unfoldable pub shows : Tap → List ℕ → Tap
shows x w =
    let v : List ℕ = x.untaken ++ w in
    let g : Shown = window x.settings x.session x.table v in
    record { settings = x.settings; session = g.next; table = g.table; untaken = drop (taken x.session g) v }

unfoldable pub shows_all : Tap → List (List ℕ) → Tap
shows_all x [] = x
shows_all x (w ∷ ws) = shows_all (shows x w) ws

-- what was answered last
abbrev pub lastly : Tap → Final
lastly x = said x.session x.table
