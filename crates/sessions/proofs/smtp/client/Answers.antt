-- `sessions::smtp::client` meets its contract: behind its mail, the session is done. Assumes nothing.
use Rattle.rules.specs.Mail.{after_mail}
use Rattle.rules.specs.declared.Mail.TheVariants.{Smtp}
use Rattle.sessions.proofs.Steps.{stop, walked}
use Rattle.sessions.proofs.smtp.client.Goals as goal

pub returns-in-Ok : goal.returns-in-Ok
unfolding after_mail
returns-in-Ok c = (walked {to = after_mail Smtp} c.in-Ok.ensures (stop c.stop.ensures)).is
