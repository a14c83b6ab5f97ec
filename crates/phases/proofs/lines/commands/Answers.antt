-- `phases::lines::commands` meets its contract. Assumes nothing.
use Rattle.phases.proofs.Reactions.{command_lists}
use Rattle.phases.proofs.lines.commands.Goals as goal

pub returns : goal.returns
returns c = c.list.ensures _ command_lists (λ l to r said. said)
