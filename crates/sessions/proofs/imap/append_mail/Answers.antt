-- `sessions::imap::append_mail` meets its contract, by what stands behind the literal. Assumes nothing.
use Rattle.rules.specs.Mail.{after_mail}
use Rattle.rules.specs.Phases.{closing, wants}
use Rattle.sessions.proofs.MailTurns.{not_crlf}
use Rattle.sessions.proofs.StatusTurns.{closing_crlf, closing_other}
use Rattle.sessions.proofs.Steps.{read_stop, walked, is_err}
use Rattle.sessions.proofs.imap.append_mail.Goals as goal

-- ---- the two bytes behind it: they are not there
pub returns-in_err-two_bytes : goal.returns-in_err-two_bytes
unfolding wants after_mail
returns-in_err-two_bytes c = rw (is_err _ c.from_residual-in_err-two_bytes.ensures.1) (walked c.in_ok-end.ensures (read_stop closing c.in_err-two_bytes.ensures))

-- CRLF: the literal is closed
pub returns-in-Crlf : goal.returns-in-Crlf
unfolding after_mail
returns-in-Crlf c = walked c.in_ok-end.ensures (closing_crlf (rw c.in-Crlf.is at c.in_ok-two_bytes.ensures))

-- other bytes: refusal 8
pub returns-in-Hyphens : goal.returns-in-Hyphens
unfolding after_mail
returns-in-Hyphens c = walked c.in_ok-end.ensures (closing_other (not_crlf c.in_ok-end.end.log _ c.in_ok-two_bytes.ensures c.in-Hyphens.is) c.stop.ensures)
