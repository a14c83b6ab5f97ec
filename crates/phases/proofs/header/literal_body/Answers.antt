-- `phases::header::literal_body` meets its contract: the start, and where no byte is wanted the stop. Assumes nothing.
use native.Mathlib.Omega.{arith}
use Rattle.phases.proofs.Heading.{literal_some, literal_none}
use Rattle.phases.proofs.header.literal_body.Goals as goal

-- no byte is wanted
pub returns-then-size-eq0 : goal.returns-then-size-eq0
returns-then-size-eq0 c = λ k. literal_none k _ _ _ (omega arith) c.empty_body.ensures

-- one at least is
pub returns : goal.returns
returns c = λ k. literal_some k _ _ _ (omega arith) c.note.ensures
