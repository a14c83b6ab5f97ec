-- `phases::turns::after_mail` meets its contract, by whose mail it is. Assumes nothing.
use mathlib.Core.Path.{refl}
use Rattle.rules.specs.Mail.{after_mail}
use Rattle.windows.specs.Stands.{enter, enters}
use Rattle.phases.specs.Phasing.{state_of, Fits}
use Rattle.phases.proofs.turns.after_mail.Goals as goal

-- an SMTP client's: the session is over
pub returns-in-Smtp : goal.returns-in-Smtp
unfolding after_mail enter enters state_of Fits
returns-in-Smtp c = λ k. rw c.in-Smtp.is (record { is = refl; fits = tt })

-- a POP3 server's: a status line follows
pub returns-in-Pop3 : goal.returns-in-Pop3
unfolding after_mail enter enters state_of Fits
returns-in-Pop3 c = λ k. rw c.in-Pop3.is (record { is = refl; fits = tt })

-- an IMAP client's: the two bytes behind the literal follow
pub returns-in-Imap : goal.returns-in-Imap
unfolding after_mail enter enters state_of Fits
returns-in-Imap c = λ k. rw c.in-Imap.is (record { is = refl; fits = tt })
