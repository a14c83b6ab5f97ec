-- `sessions::imap::append_ok` meets its contract, by whether the line holds a colon. Assumes nothing.
use mathlib.Core.Path.{sym, ◌∙◌}
use Rattle.rules.specs.Phases.{offered, wants}
use Rattle.sessions.proofs.StatusTurns.{offered_mail, offered_none}
use Rattle.sessions.proofs.Steps.{read_stop, is_err}
use Rattle.sessions.proofs.imap.append_ok.Goals as goal

-- the line is short
pub returns-in_err-end : goal.returns-in_err-end
unfolding wants
returns-in_err-end c = rw (is_err _ c.from_residual.ensures.1) (read_stop (offered _) c.in_err-end.ensures)

-- it holds a colon: a mail begins with that line
pub returns-then-has_colon : goal.returns-then-has_colon
returns-then-has_colon c = offered_mail c.in_ok-end.ensures _ (sym c.has_colon.ensures ∙ c.if-has_colon.true) c.append_mail.ensures

-- it does not: the line is a command
pub returns : goal.returns
returns c = offered_none c.in_ok-end.ensures _ (sym c.has_colon.ensures ∙ c.if-has_colon.false) c.requires
