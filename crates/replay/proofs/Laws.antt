-- What was read, put together.
-- Assumes nothing.
use Rattle.std.proofs.Common.{◌≡◌, ℕ, ◌*◌, ◌≤◌, Bool, List, length, take, replicate}
use Rattle.std.specs.Prelude.{Option, Some, None, IfSome, Result, Ok, Err}
use Rattle.cases.specs.Cases.{NextHead, four, lent_size, pattern}
use Rattle.cases.specs.declared.Ending.{Ending}
use Rattle.cases.specs.declared.Ending.TheVariants.{Broken}
use Rattle.cases.specs.declared.Head.{Head}
use Rattle.events.specs.Table.{Final}
use Rattle.rules.specs.Sessions.{answer_of}
use Rattle.rules.specs.declared.Entry.{Entry}
use Rattle.replay.specs.Replay.{agree, OfSession, OfRecord, group_of, next_of, OfFile, behind}
use Rattle.replay.specs.declared.Case.{Case}
use Rattle.replay.specs.declared.Replayed.{Replayed}

pub session_judged : {f : Final} {same : Bool} {n m result : ℕ} (e : Entry) (slots : ℕ) (s events b t : List ℕ) → length b ≡ 12 → n ≡ four b 8 → 16 * n ≤ length events
    → m ≡ lent_size slots (length s) → f ≡ answer_of e (replicate m pattern) s → take (16 * n) events ≡ t → same ≡ agree f b t → result ≡ four b 0
    → OfSession e slots s events (record { result = result; same = same })
session_judged e slots s events b t l k room z a y w x = record { stored = b; long = l; room = rw k at room; is = rw (x, w, a, z, ← y, k) }

module _ {bytes events : List ℕ} (r : Option Replayed) {h : Head} (n : NextHead (Ok h)) (w : IfSome r (OfRecord h bytes events)) where
  behind_head : {x : Result Case Ending} → x ≡ next_of h.letter r → OfFile bytes events x
  behind_head y = rw y (behind r n w)

  pub case_behind : {q : Replayed} {x : Result Case Ending} → r ≡ Some q → x ≡ group_of h.letter q → OfFile bytes events x
  unfolding next_of
  case_behind a y = behind_head (rw a y)

  pub broken_behind : r ≡ None → OfFile bytes events (Err Broken)
  unfolding next_of
  broken_behind a = behind_head (rw a)
