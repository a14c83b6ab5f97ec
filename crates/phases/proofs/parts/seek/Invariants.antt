-- `phases::parts::seek` meets its contract. The loop's invariant: what is left at p is what was left at first, and `may` says whether a delimiter may stand there. Assumes nothing.
use Prim.Native.Nat.{◌-◌}
use lib.ListN.{length}
use Rattle.phases.proofs.Parting.{Passed}
use Rattle.phases.proofs.parts.seek.Given as goal

abbrev pub invariant-loop-may : goal.invariant-loop-may
invariant-loop-may l = Passed l.w l.at l.b l.here l.p l.may

abbrev pub decreases-loop-may : goal.decreases-loop-may
decreases-loop-may l = length l.w - l.p
