-- `sessions::smtp::envelope` meets its contract, by what the second line is. Assumes nothing.
use mathlib.Core.Path.{sym, ◌∙◌}
use Rattle.rules.specs.Phases.{wants, second}
use Rattle.sessions.proofs.SmtpTurns.{second_tls, second_login, second_from, second_other}
use Rattle.sessions.proofs.Steps.{read_stop, is_err}
use Rattle.sessions.proofs.smtp.envelope.Goals as goal

-- the line is short
pub returns-in_err-l : goal.returns-in_err-l
unfolding wants
returns-in_err-l c = rw (is_err _ c.from_residual.ensures.1) (read_stop second c.in_err-l.ensures)

-- STARTTLS
pub returns-in-StartTls : goal.returns-in-StartTls
returns-in-StartTls c = second_tls c.in_ok-l.ensures (sym c.second_line.ensures ∙ c.in-StartTls.is) c.stop.ensures

-- AUTH LOGIN
pub returns-in-AuthLogin : goal.returns-in-AuthLogin
returns-in-AuthLogin c = second_login c.in_ok-l.ensures (sym c.second_line.ensures ∙ c.in-AuthLogin.is) c.login.ensures

-- MAIL FROM:
pub returns-in-MailFrom : goal.returns-in-MailFrom
returns-in-MailFrom c = second_from c.in_ok-l.ensures (sym c.second_line.ensures ∙ c.in-MailFrom.is) c.tried.ensures

-- anything else
pub returns-in-Other : goal.returns-in-Other
returns-in-Other c = second_other c.in_ok-l.ensures (sym c.second_line.ensures ∙ c.in-Other.is) c.read_to_from.ensures
