-- SMTP, both directions: document 01, 'SMTP client' and 'SMTP server'.
-- Assumes nothing.
use Rattle.std.specs.Prelude.{cond, List, [], ◌∷◌, ℕ, ◌+◌, length, Option, Some, None}
use Rattle.events.specs.Events.{ev}
use Rattle.events.specs.Events as event
use Rattle.events.specs.declared.Encoding.TheVariants.{Unsaid}
use Rattle.events.specs.declared.Event.{Event}
use Rattle.events.specs.declared.Outcome.TheVariants.{Done, NoHello, StartTls, NoRecipient}
use Rattle.fields.specs.Common.{unknown}
use Rattle.fields.specs.Smtp.{starts_with_helo, is_mail_from, second_line, is_data, mail_from, rcpt_to}
use Rattle.reading.specs.declared.Span.{Span}
use Rattle.fields.specs.declared.smtp.Second.{Second}
use Rattle.fields.specs.declared.smtp.Second.TheVariants as is
use Rattle.reading.specs.Bytes.{starts_with}
use Rattle.reading.specs.Reading.{clean}
use Rattle.reading.specs.Text.{text}
use Rattle.rules.specs.Machine.{Reaction}
use Rattle.rules.specs.Phases.{State, second, user, password, sender, seeking, recipient, reply, head, then, stop, ahead}
use Rattle.rules.specs.declared.Mail.TheVariants.{Smtp}

-- ---- the client

-- the first line: HELO or EHLO
unfoldable pub on_hello : ℕ → List ℕ → Reaction State
on_hello at l = cond (starts_with_helo l) (then [] second) (stop [] NoHello 0)

-- tried as sender: failing gives no event
unfoldable pub given : ℕ → Option Span → List Event
given at (Some a) = ev event.sender (at + a.at) a.len Unsaid ∷ []
given at None = []

abbrev pub tried : ℕ → List ℕ → Reaction State
tried at l = then (given at (mail_from l)) recipient

-- then a clean line: STARTTLS refuses; AUTH LOGIN takes user line, password line and one line tried; MAIL FROM: is tried; anything else skips
unfoldable pub by_second : Second → ℕ → List ℕ → Reaction State
by_second is.StartTls at l = stop [] StartTls at
by_second is.AuthLogin at l = then [] user
by_second is.MailFrom at l = tried at l
by_second is.Other at l = then [] seeking

unfoldable pub on_second : ℕ → List ℕ → Reaction State
on_second at l = by_second (second_line (clean l)) at (clean l)

unfoldable pub on_user : ℕ → List ℕ → Reaction State
on_user at l = then (ev event.user at (length (clean l)) Unsaid ∷ []) password

unfoldable pub on_password : ℕ → List ℕ → Reaction State
on_password at l = then (ev event.password at (length (clean l)) Unsaid ∷ []) sender

unfoldable pub on_sender : ℕ → List ℕ → Reaction State
on_sender at l = tried at (clean l)

-- lines until one begins MAIL FROM: , and that line is tried
unfoldable pub on_seeking : ℕ → List ℕ → Reaction State
on_seeking at l = cond (is_mail_from (clean l)) (tried at (clean l)) (then [] seeking)

-- recipients, until DATA; then a mail
unfoldable pub by_recipient : ℕ → Option Span → Reaction State
by_recipient at (Some a) = then (ev event.recipient (at + a.at) a.len Unsaid ∷ []) recipient
by_recipient at None = stop [] NoRecipient at

unfoldable pub on_recipient : ℕ → List ℕ → Reaction State
on_recipient at l = cond (is_data (clean l)) (then [] (head Smtp unknown [])) (by_recipient at (rcpt_to (clean l)))

-- ---- the server: every clean line is listed, until one begins 221
unfoldable pub on_reply : ℕ → List ℕ → Reaction State
on_reply at l =
    ahead (ev event.server_line at (length (clean l)) Unsaid)
    (cond (starts_with (text "221") (clean l)) (stop [] Done (at + length l)) (then [] reply))
