-- `sessions::pop3::status` meets its contract, by what the line says. Assumes nothing.
use mathlib.Core.Path.{sym, ◌∙◌}
use Rattle.rules.specs.Mail.{after_mail}
use Rattle.sessions.proofs.StatusTurns.{status_tls, status_mail}
use Rattle.sessions.proofs.pop3.status.Goals as goal

-- a TLS answer
pub returns-then-stls_answer : goal.returns-then-stls_answer
returns-then-stls_answer c = status_tls c.in_ok-l.ensures (sym c.stls_answer.ensures ∙ c.if-stls_answer.true) c.stop.ensures

-- a retrieval, and its mail
pub returns-then-retr_answer : goal.returns-then-retr_answer
unfolding after_mail
returns-then-retr_answer c = let no-tls = sym c.stls_answer.ensures ∙ c.if-stls_answer.false in
    status_mail c.in_ok-l.ensures no-tls (sym c.retr_answer.ensures ∙ c.if-retr_answer.true) c.read_mail.ensures
