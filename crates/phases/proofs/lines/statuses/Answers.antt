-- `phases::lines::statuses` meets its contract. Assumes nothing.
use Rattle.phases.proofs.Reactions.{status_lists}
use Rattle.phases.proofs.lines.statuses.Goals as goal

pub returns : goal.returns
returns c = c.list.ensures _ status_lists (λ l to r said. said)
