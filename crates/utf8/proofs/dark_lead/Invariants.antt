-- `utf8::dark_lead` meets its contract. The loop's invariant: no character up to `at` is white space. Assumes nothing.
use Prim.Native.Nat.{◌-◌}
use lib.ListN.{length}
use Rattle.utf8.specs.Utf8.{dark_lead}
use Rattle.utf8.proofs.Walks.{Walked}
use Rattle.utf8.proofs.dark_lead.Given as goal

abbrev pub invariant-loop-c : goal.invariant-loop-c
invariant-loop-c l = Walked dark_lead l.l l.at

abbrev pub decreases-loop-c : goal.decreases-loop-c
decreases-loop-c l = length l.l - l.at
