-- `sessions::smtp::reply` meets its contract, by what the line begins with. Assumes nothing.
use mathlib.Core.Path.{sym, ◌∙◌}
use Rattle.sessions.proofs.SmtpTurns.{reply_last}
use Rattle.sessions.proofs.smtp.reply.Goals as goal

-- 221
pub returns-then-starts_with : goal.returns-then-starts_with
returns-then-starts_with c = reply_last c.in_ok-l.ensures (sym c.starts_with.ensures ∙ c.if-starts_with.true) c.stop.ensures
