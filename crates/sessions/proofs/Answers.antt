-- The entries: 2 first, then what the session comes to.
-- Assumes nothing.
use mathlib.Core.Path.{◌≡◌}
use mathlib.Core.List.{List}
use Prim.Native.Nat.{ℕ, ◌≤◌, ◌<◌}
use lib.ListN.{length}
use borrow.Author.Tests.{lt-ltb, le-ltb}
use Rattle.events.specs.Table.{Final, no_events}
use Rattle.events.specs.declared.Outcome.TheVariants.{TooLong}
use Rattle.reads.specs.Clauses.{Stopped, final_at}
use Rattle.reads.specs.declared.Stop.{Stop}
use Rattle.rules.specs.Phases.{Phase, reads}
use Rattle.rules.specs.Sessions.{limit, session, settle, answer}

module _ (start : Phase) (s t : List ℕ) where
  -- more bytes than the limit
  pub too_long : {a : Stop} → limit < length s → Stopped TooLong 0 no_events a → final_at t a ≡ answer start t s
  unfolding answer
  too_long h w = rw (lt-ltb limit (length s) h, w.result, w.place, w.log)

  -- no more
  pub in_limit : (f : Final) → length s ≤ limit → f ≡ settle t no_events (session (reads start) 0 s) → f ≡ answer start t s
  unfolding answer
  in_limit f h w = rw (le-ltb limit (length s) h) w
