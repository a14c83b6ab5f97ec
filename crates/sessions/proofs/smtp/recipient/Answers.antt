-- `sessions::smtp::recipient` meets its contract, by whether the line holds a recipient. Assumes nothing.
use mathlib.Core.Path.{sym, ◌∙◌}
use Rattle.sessions.proofs.SmtpTurns.{recipient_none}
use Rattle.sessions.proofs.smtp.recipient.Goals as goal

-- there is none: refusal 5
pub returns-in_default : goal.returns-in_default
returns-in_default c = recipient_none _ (sym c.rcpt_to.ensures ∙ c.in_default.is) c.stop.ensures
