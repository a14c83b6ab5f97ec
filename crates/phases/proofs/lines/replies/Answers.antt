-- `phases::lines::replies` meets its contract. Assumes nothing.
use Rattle.phases.proofs.Reactions.{reply_lists}
use Rattle.phases.proofs.lines.replies.Goals as goal

pub returns : goal.returns
returns c = c.list.ensures _ reply_lists (λ l to r said. said)
