use native.Mathlib.Omega.{arith}
use Rattle.fields.proofs.Worth.{added_none_yet, added_on, added_all}
use Rattle.fields.proofs.runs.decimal.Goals as goal

pub loop-b-init : goal.loop-b-init
loop-b-init c = added_none_yet _ _

-- ten times n and the digit are no more: that is n behind the digit
pub loop-b-preserved : goal.loop-b-preserved
loop-b-preserved c = added_on c.loop-b.invariant c.loop-b-test.true c.digit-d.ensures c.if-max-d.false (omega arith)

-- behind the last digit
pub returns : goal.returns
returns c = added_all c.loop-b.invariant c.loop-b-test.false
