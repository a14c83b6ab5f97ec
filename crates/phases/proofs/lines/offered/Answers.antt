-- `phases::lines::offered` meets its contract: with a colon the line is a mail's first, else a command. Assumes nothing.
use mathlib.Core.Path.{sym, ◌∙◌}
use Rattle.phases.proofs.Heading.{offered_short, offered_head, offered_command}
use Rattle.phases.proofs.lines.offered.Goals as goal

-- no line is finished
pub returns-in_default : goal.returns-in_default
returns-in_default c = offered_short (rw c.in_default.is at c.line.ensures) c.requires.0 c.requires.1

-- a colon: the header is read
pub returns-then-has_colon : goal.returns-then-has_colon
returns-then-has_colon c = offered_head c.in-Ok.ensures (sym c.has_colon.ensures ∙ c.if-has_colon.true) (rw c.unheard.ensures at c.head.ensures)

-- none: a command
pub returns : goal.returns
returns c = offered_command c.in-Ok.ensures (sym c.has_colon.ensures ∙ c.if-has_colon.false) c.requires.1 (c.commands.ensures c.args.kept.now)
