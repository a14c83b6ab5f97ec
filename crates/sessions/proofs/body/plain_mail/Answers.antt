-- `sessions::body::plain_mail` meets its contract, by whose mail it is. Assumes nothing.
use mathlib.Core.Logic.{inl, inr}
use Prim.Native.Nat.{◌-◌, ◌<◌}
use native.Mathlib.Omega.{arith}
use borrow.Author.Tests.{lt-ltb, le-ltb}
use Rattle.rules.specs.Mail.{plain_mail, after_mail, rest}
use Rattle.rules.specs.declared.Mail.TheVariants.{Smtp, Pop3}
use Rattle.sessions.proofs.Steps.{stop}
use Rattle.sessions.proofs.body.plain_mail.Goals as goal

-- ---- SMTP and POP3: lines up to the dot line
pub returns-in-Smtp : goal.returns-in-Smtp
unfolding plain_mail
returns-in-Smtp c = elim c.in-Smtp.is [ inl e ↦ rw e (c.body.ensures Smtp) | inr e ↦ rw e (c.body.ensures Pop3) ]

-- ---- IMAP: the literal is smaller than the header: refusal 7
pub returns-in_default : goal.returns-in_default
unfolding plain_mail
returns-in_default c = let small : c.in-Imap.size < c.args.from.at - c.in-Imap.start = omega (arith, c.in_default.ensures) in
    rw (c.in-Imap.is, lt-ltb _ _ small) (stop c.stop.ensures)

-- it is not: what is left of it
pub returns-in-Some : goal.returns-in-Some
unfolding plain_mail rest after_mail
returns-in-Some c = rw (c.in-Imap.is, le-ltb _ _ c.in-Some.ensures.0, ← c.in-Some.ensures.1) c.size_body.ensures
