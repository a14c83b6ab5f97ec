-- What a line of an SMTP client says: document 01, 'SMTP client'. Ports the line tests of smtp.rs.
-- Assumes nothing.
use Rattle.std.specs.Prelude.{Bool, cond, ◌||◌, List, ℕ, ◌-◌, length, drop, Option, Some, None}
use Rattle.reading.specs.Bytes.{starts_with, same, raised, first_place, holds, span}
use Rattle.reading.specs.Text.{text}
use Rattle.reading.specs.declared.Span.{Span}
use Rattle.fields.specs.declared.smtp.Second.{Second}
use Rattle.fields.specs.declared.smtp.Second.TheVariants.{StartTls, AuthLogin, MailFrom, Other}

-- the first four bytes are HELO or EHLO, any case
unfoldable pub starts_with_helo : List ℕ → Bool
starts_with_helo l = starts_with (raised (text "HELO")) (raised l) || starts_with (raised (text "EHLO")) (raised l)

-- a line that begins MAIL FROM: , any case
unfoldable pub is_mail_from : List ℕ → Bool
is_mail_from l = starts_with (raised (text "MAIL FROM:")) (raised l)

-- the second line, clean: exactly STARTTLS; exactly AUTH LOGIN; beginning MAIL FROM: ; anything else. These ignore case
unfoldable pub second_line : List ℕ → Second
second_line l =
    cond (same (raised (text "STARTTLS")) (raised l)) StartTls
    (cond (same (raised (text "AUTH LOGIN")) (raised l)) AuthLogin
    (cond (is_mail_from l) MailFrom
    Other))

-- exactly DATA, any case
unfoldable pub is_data : List ℕ → Bool
is_data l = same (raised (text "DATA")) (raised l)

-- what stands up to > or the line's end, n being the bytes left
unfoldable pub up_to_end : ℕ → Option ℕ → ℕ
up_to_end n (Some q) = q
up_to_end n None = n

abbrev pub from_field : List ℕ
from_field = text "MAIL FROM: <"

abbrev pub to_field : List ℕ
to_field = text "RCPT TO: <"

-- the first > behind a field's name
unfoldable pub closing : List ℕ → List ℕ → Option ℕ
closing w l = first_place (holds 62 (drop (length w) l)) (drop (length w) l)

-- where in the line the sender stands: behind exactly `MAIL FROM: <`, up to > or the line's end
unfoldable pub mail_from : List ℕ → Option Span
mail_from l = cond (starts_with from_field l) (Some (span (length from_field) (up_to_end (length l - length from_field) (closing from_field l)))) None

-- up to a required >
unfoldable pub required : ℕ → Option ℕ → Option Span
required o (Some q) = Some (span o q)
required o None = None

-- where in the line the recipient stands: behind exactly `RCPT TO: <`, up to a required >
unfoldable pub rcpt_to : List ℕ → Option Span
rcpt_to l = cond (starts_with to_field l) (required (length to_field) (closing to_field l)) None
