-- `phases::envelope::given` meets its contract. Assumes nothing.
use Rattle.phases.proofs.Reactions.{given_halts, given_leads}
use Rattle.phases.proofs.Turning.{stopped}
use Rattle.phases.proofs.envelope.given.Goals as goal

-- no line is finished, or it is refused
pub returns-in_err-line : goal.returns-in_err-line
returns-in_err-line c = λ so to l k. stopped _ c.from_residual.ensures.1 (given_halts l c.in_err-line.ensures c.requires k _)

-- the line is listed, or the table is full
pub returns : goal.returns
returns c = λ so to l k. rw c.onward.ensures (given_leads l c.in_ok-line.ensures c.note-noted.result c.note-noted.ensures k)
