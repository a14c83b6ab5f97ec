-- `utf8::dark_end` meets its contract. The loop's invariant: of the characters up to `at`, the last that is no white space ends at `end`. Assumes nothing.
use Prim.Native.Nat.{◌-◌}
use lib.ListN.{length}
use Rattle.utf8.proofs.Walks.{Ended}
use Rattle.utf8.proofs.dark_end.Given as goal

abbrev pub invariant-loop-c : goal.invariant-loop-c
invariant-loop-c l = Ended l.l l.at l.end

abbrev pub decreases-loop-c : goal.decreases-loop-c
decreases-loop-c l = length l.l - l.at
