-- `phases::header::head` meets its contract. The loop's invariant: what is left at p, with what is heard, is what was left. Assumes nothing.
use Prim.Native.Nat.{◌-◌}
use lib.ListN.{length}
use Rattle.phases.specs.declared.Phase.TheVariants.{Head}
use Rattle.phases.proofs.Heading.{HeadAt}
use Rattle.phases.proofs.header.head.Given as goal

abbrev pub invariant-loop-e : goal.invariant-loop-e
invariant-loop-e l = HeadAt l.w.settings l.w.bytes.now l.w.base l.at l.initial.kept l.initial.table l.initial.log (Head l.mail l.initial.known l.level)
    l.mail l.known l.level l.kept l.p l.table l.log

abbrev pub decreases-loop-e : goal.decreases-loop-e
decreases-loop-e l = length l.w.bytes.now - l.p
