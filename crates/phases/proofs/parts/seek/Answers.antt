-- `seek`: a line that is passed, and one that is not finished.
use Rattle.phases.proofs.Parting.{passed_line, passed_waits}
use Rattle.phases.proofs.parts.seek.Goals as goal

-- none is finished
pub returns-in_default : goal.returns-in_default
returns-in_default c = passed_waits c.loop-may.invariant c.loop-may-test.true (rw c.in_default.is at c.line.ensures)

-- it is passed
pub loop-may-preserved : goal.loop-may-preserved
loop-may-preserved c = passed_line c.loop-may.invariant c.loop-may-test.true c.in-Ok.ensures c.ends_with-may.ensures
