-- `phases::envelope::recipients` meets its contract. The loop's invariant: what is left at p is what was left. Assumes nothing.
use Prim.Native.Nat.{◌-◌}
use lib.ListN.{length}
use Rattle.rules.specs.Phases.{reads, recipient}
use Rattle.windows.specs.Stands.{fresh}
use Rattle.phases.proofs.Turning.{Looped}
use Rattle.phases.proofs.envelope.recipients.Given as goal

abbrev pub invariant-loop-line : goal.invariant-loop-line
invariant-loop-line l = Looped l.w.settings l.w.bytes.now l.w.base l.at l.initial.table l.initial.log (fresh (reads recipient)) l.p l.table l.log

abbrev pub decreases-loop-line : goal.decreases-loop-line
decreases-loop-line l = length l.w.bytes.now - l.p
