-- `phases::advance` meets its contract. The loop's invariant: what is left at the present spot is what was left. Assumes nothing.
use Prim.Native.Nat.{◌-◌}
use lib.ListN.{length}
use Rattle.phases.proofs.Dispatch.{Arrived}
use Rattle.phases.proofs.advance.Given as goal

abbrev pub invariant-loop-next : goal.invariant-loop-next
invariant-loop-next l = Arrived l.window.settings l.window.bytes.now l.window.base l.initial.kept l.initial.table l.initial.now l.kept l.table l.now

abbrev pub decreases-loop-next : goal.decreases-loop-next
decreases-loop-next l = length l.window.bytes.now - l.now.taken
