use native.Mathlib.Omega.{arith}
use Rattle.phases.proofs.Parting.{none_copied, copied_on, copied_all}
use Rattle.phases.proofs.copies.keep.Goals as goal

pub loop-j-init : goal.loop-j-init
loop-j-init c = none_copied

-- its place lies in the slot
pub bounds-kept-first : goal.bounds-kept-first
bounds-kept-first c = omega (arith, c.min-n.ensures, c.loop-j.invariant.long)

-- one byte more is copied
pub loop-j-preserved : goal.loop-j-preserved
loop-j-preserved c = copied_on c.requires c.min-n.ensures c.loop-j.invariant (omega arith)

-- all are copied, and the boundary is kept
pub returns : goal.returns
returns c = copied_all c.requires c.min-n.ensures c.loop-j.invariant (omega arith) _ (omega arith)
