-- `utf8::is_utf8` meets its contract. The loop's invariant: the characters up to `at` have as many octets. Assumes nothing.
use Prim.Native.Nat.{◌-◌}
use lib.ListN.{length}
use Rattle.utf8.specs.Utf8.{size}
use Rattle.utf8.proofs.Walks.{Walked}
use Rattle.utf8.proofs.is_utf8.Given as goal

abbrev pub invariant-loop-c : goal.invariant-loop-c
invariant-loop-c l = Walked size l.l l.at

abbrev pub decreases-loop-c : goal.decreases-loop-c
decreases-loop-c l = length l.l - l.at
