-- `sessions::smtp::sender` meets its contract: a line, tried as sender. Assumes nothing.
use Rattle.rules.specs.Phases.{wants, sender}
use Rattle.sessions.proofs.SmtpTurns.{sender_tried}
use Rattle.sessions.proofs.Steps.{read_stop, is_err}
use Rattle.sessions.proofs.smtp.sender.Goals as goal

-- the line is short
pub returns-in_err-l : goal.returns-in_err-l
unfolding wants
returns-in_err-l c = rw (is_err _ c.from_residual.ensures.1) (read_stop sender c.in_err-l.ensures)

-- it is tried
pub returns : goal.returns
returns c = sender_tried c.in_ok-l.ensures c.tried.ensures
