-- `phases::header::learn` meets its contract, where the line supplies a boundary. Assumes nothing.
use Rattle.phases.proofs.Heading.{heard_supplied}
use Rattle.phases.proofs.header.learn.Goals as goal

-- it is kept
pub returns-in-Some : goal.returns-in-Some
returns-in-Some c = heard_supplied c.requires.3 c.requires.2 c.if-supplied.false c.scan_line-scan.ensures c.in-Some.is (rw c.of.ensures at c.keep.ensures)
