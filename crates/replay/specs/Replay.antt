-- When an answer is the stored one, and how cases are counted.
-- Assumes nothing.
use Rattle.std.specs.Prelude.{◌≡◌, ℕ, ◌+◌, ◌*◌, ◌%◌, ◌^◌, ◌≤◌, Bool, cond, ◌&&◌, List, length, take, drop, replicate, ◌==◌, nat_lt, slice_index, slice_set, Option, Some, None, IfSome, Result, Ok, Err}
use Rattle.cases.specs.Cases.{NextHead, four, guess_of, lent_size, pattern, only, same_numbers}
use Rattle.cases.specs.declared.Ending.{Ending}
use Rattle.cases.specs.declared.Ending.TheVariants.{Broken}
use Rattle.cases.specs.declared.Head.{Head}
use Rattle.letters.specs.Letters.{entry_of}
use Rattle.rules.specs.Sessions.{answer_of}
use Rattle.rules.specs.declared.Entry.{Entry}
use Rattle.events.specs.Events.{result_number}
use Rattle.events.specs.Table.{Final}
use Rattle.replay.specs.declared.Case.{Case}
use Rattle.replay.specs.declared.Counts.{Counts}
use Rattle.replay.specs.declared.Replayed.{Replayed}

-- ---- comparisons

-- result and place, the events' numbers, as many as are stored, and nothing but the pattern behind them
unfoldable pub agree : Final → List ℕ → List ℕ → Bool
agree f stored events =
    (result_number f.result == four stored 0)
    && (f.place == four stored 4
    && (same_numbers (take (4 * f.count) f.table) events
    && only pattern (drop (4 * f.count) f.table)))

-- the stored result, and whether the answers are the same
abbrev pub judge : Bool → ℕ → Replayed
judge same stored = record { result = stored; same = same }

-- ---- what a read can come to; nothing is known of the bytes before they are read

-- a guess against four stored bytes
pub record OfDirection (s : List ℕ) (r : Replayed) : Type 0 where
  pub stored : List ℕ
  pub long : length stored ≡ 4
  pub guess : ℕ
  pub guesses : guess_of s ≡ Some guess
  pub is : r ≡ judge (guess == four stored 0) (four stored 0)

-- a session's answer, from a table with nothing but the pattern, against twelve stored bytes and as many stored events as they say
pub record OfSession (e : Entry) (slots : ℕ) (s events : List ℕ) (r : Replayed) : Type 0 where
  pub stored : List ℕ
  pub long : length stored ≡ 12
  pub room : 16 * four stored 8 ≤ length events
  pub is : r ≡ judge (agree (answer_of e (replicate (lent_size slots (length s)) pattern) s) stored (take (16 * four stored 8) events)) (four stored 0)

-- by the letter of the head h, with both buffers afterwards
pub data OfRecord (h : Head) (bytes events : List ℕ) (r : Replayed) : Type 0 where
  direction : h.letter ≡ 68 → h.length ≤ length bytes → OfDirection (take h.length bytes) r → OfRecord h bytes events r
  session : (e : Entry) → entry_of h.letter ≡ Some e → h.length ≤ length bytes → OfSession e h.slots (take h.length bytes) events r → OfRecord h bytes events r

-- ---- groups

-- S, s, P, I, and any other letter; and back
unfoldable pub index_of : ℕ → ℕ
index_of b = cond (b == 83) 0 (cond (b == 115) 1 (cond (b == 80) 2 (cond (b == 73) 3 4)))

unfoldable pub letter_of : ℕ → ℕ
letter_of i = cond (i == 0) 83 (cond (i == 1) 115 (cond (i == 2) 80 (cond (i == 3) 73 68)))

-- sixteen groups for each letter, by the stored result; a larger result is broken
unfoldable pub group_of : ℕ → Replayed → Result Case Ending
group_of letter r = cond (nat_lt 15 r.result) (Err Broken) (Ok (record { group = index_of letter * 16 + r.result; same = r.same }))

unfoldable pub next_of : ℕ → Option Replayed → Result Case Ending
next_of letter (Some r) = group_of letter r
next_of letter None = Err Broken

-- one more in the group, modulo 2^64, if there is such a group
unfoldable pub counted_in : List ℕ → ℕ → List ℕ
counted_in groups g = cond (nat_lt g (length groups)) (slice_set groups g ((slice_index groups g + 1) % 2 ^ 64)) groups

-- one case more, and one difference more unless its answers are the same, modulo 2^64
unfoldable pub with_case : Counts → Case → Counts
with_case n c = record { cases = (n.cases + 1) % 2 ^ 64; differences = (n.differences + cond c.same 0 1) % 2 ^ 64; broken = n.broken }

-- where a record may begin: no head, or one and what stands behind it
pub data OfFile (bytes events : List ℕ) : Result Case Ending → Type 0 where
  headless : {e : Ending} → NextHead (Err e) → OfFile bytes events (Err e)
  behind : (r : Option Replayed) {h : Head} → NextHead (Ok h) → IfSome r (OfRecord h bytes events) → OfFile bytes events (next_of h.letter r)
