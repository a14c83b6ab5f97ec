-- `sessions::imap::command` meets its contract, by what the line says. Assumes nothing.
use mathlib.Core.Path.{sym, ◌∙◌}
use Rattle.sessions.proofs.StatusTurns.{command_append}
use Rattle.sessions.proofs.imap.command.Goals as goal

-- an append, and what it brings
pub returns-then-append : goal.returns-then-append
returns-then-append c = command_append c.in_ok-l.ensures (sym c.append.ensures ∙ c.if-append.true) c.append_size.ensures c.append_ok.ensures
