-- What an answer leaves alone: every number of the table past its events, and the table's length; and its events have slots.
-- Assumes nothing.
use mathlib.Core.Path.{◌≡◌, refl, ap}
use mathlib.Core.List.{List}
use Prim.Native.Nat.{ℕ, ◌*◌, ◌≤◌}
use native.Mathlib.Omega.{arith}
use lib.Dec.{ltb}
use lib.ListN.{length}
use Rattle.events.proofs.Laws.{Keeps, keeps, pour_room}
use Rattle.events.specs.Events.{width}
use Rattle.events.specs.Table.{Final, final_of, no_events, slots}
use Rattle.events.specs.declared.Answer.{Answer}
use Rattle.reading.proofs.Places.{by_test}
use Rattle.rules.specs.Phases.{Phase, reads}
use Rattle.rules.specs.Sessions.{limit, session, settle, answer}

module _ (start : Phase) (t s : List ℕ) where
  pub kept : Keeps t 0 (answer start t s)
  unfolding answer settle
  kept =
      by_test (ltb limit (length s))
      (λ long. rw long (record { grown = omega arith; front = λ j h. refl; behind = refl; long = refl }))
      (λ fits. rw fits (keeps (session (reads start) 0 s).events t no_events _ _))

  pub room : (answer start t s).count ≤ slots t
  unfolding answer settle
  room =
      by_test (ltb limit (length s))
      (λ long. rw long (omega arith))
      (λ fits. rw fits (pour_room (session (reads start) 0 s).events t no_events _ _ (omega arith)))

-- so that the numbers of its events lie in its table
pub written : (start : Phase) (t s u : List ℕ) (a : Answer) → final_of u a ≡ answer start t s → width * a.count ≤ length u
written start t s u a h =
    omega (arith, room start t s, (kept start t s).long, ap (λ (f : Final). f.count) h, ap (λ (f : Final). length f.table) h)
