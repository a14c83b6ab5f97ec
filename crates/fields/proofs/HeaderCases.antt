-- Header lines and SMTP lines: the definitions, run.
-- Assumes nothing.
use mathlib.Core.Path.{◌≡◌, refl}
use mathlib.Core.Bool.{true, false}
use mathlib.Core.List.{List, [], ◌∷◌, ◌++◌}
use Rattle.std.specs.Prelude.{None, Some}
use Prim.Native.Nat.{ℕ}
use Prim.Native.String.{String}
use Rattle.classes.specs.Classes.{upper_of, is_letter, is_upper}
use Rattle.events.specs.declared.Encoding.TheVariants.{Unsaid, Bit7, QuotedPrintable, Base64, Unrecognised}
use Rattle.reading.specs.Text.{text}
use Rattle.reading.specs.Bytes.{starts_with, same, ends_with, raised, first, first_place, holds, stands, span}
use Rattle.fields.specs.Runs.{lead}
use Rattle.fields.specs.Common.{encoding_named, behind_spaces, transfer_encoding, closed, quoted, unquoted, typed, named, bare_parameter, parameter, content_type, content_type_ext, unknown, first_encoding, by_type, by_ext, by_boundary, scanned, dash_bdry}
use Rattle.fields.specs.Smtp.{starts_with_helo, is_mail_from, second_line, is_data, up_to_end, closing, mail_from, required, rcpt_to}
use Rattle.fields.specs.declared.common.ContentType.TheVariants.{Other, Plain, Bounded}
use Rattle.fields.specs.declared.smtp.Second.TheVariants as second
use Rattle.fields.proofs.Encodings.{after}

pub encodings :
    transfer_encoding (text "Content-Transfer-Encoding: base64\r\n")
    ∷ transfer_encoding (text "content-transfer-encoding:QUOTED-Printable\r\n")
    ∷ transfer_encoding (text "Content-Transfer-Encoding:   7bit\r\n")
    ∷ transfer_encoding (text "Content-Transfer-Encoding: x-uuencode\r\n")
    ∷ transfer_encoding (text "content-transfer-ENCODING: x\r\n")
    ∷ transfer_encoding (text "Content-Transfer-Encoding: 7bit\n")
    ∷ transfer_encoding (text "Content-Transfer-Encoding:\t8bit\r\n")
    ∷ transfer_encoding (text "Content-Transfer-Encoding: binary \r\n")
    ∷ transfer_encoding (text "Content-Transfer-Encoding:\r\n")
    ∷ transfer_encoding (text "Content-Transfer-Encoding : 7bit\r\n")
    ∷ transfer_encoding (text "Content-Transfer-Encoding 7bit\r\n")
    ∷ transfer_encoding (text " Content-Transfer-Encoding: 7bit\r\n")
    ∷ []
    ≡ Base64 ∷ QuotedPrintable ∷ Bit7 ∷ Unrecognised ∷ Unrecognised ∷ Unrecognised ∷ Unrecognised ∷ Unrecognised ∷ Unrecognised ∷ Unsaid ∷ Unsaid ∷ Unsaid ∷ []
unfolding transfer_encoding encoding_named behind_spaces lead same starts_with raised upper_of is_letter is_upper
encodings = refl

pub types :
    content_type (text "Content-Type: a; boundary=\"q r\"; x\r\n")
    ∷ content_type (text "Content-Type: boundary=q;x\r\n")
    ∷ content_type (text "Content-Type: boundary=q\tr x\r\n")
    ∷ content_type (text "Content-Type: boundary=q\n")
    ∷ content_type (text "Content-Type: boundary=\r\n")
    ∷ content_type (text "Content-Type: boundary=p; boundary=\"q\"\r\n")
    ∷ content_type (text "Content-Type: boundary=p; boundary=\"q\r\n")
    ∷ content_type (text "Content-Type: text/plain\r\n")
    ∷ content_type (text "Content-type: boundary=q\r\n")
    ∷ content_type (text "Content-Type:boundary=q\r\n")
    ∷ []
    ≡ Bounded (span 27 3) ∷ Bounded (span 23 1) ∷ Bounded (span 23 3) ∷ Bounded (span 23 2) ∷ Bounded (span 23 0) ∷ Bounded (span 36 1) ∷ Other ∷ Plain ∷ Other ∷ Other ∷ []
unfolding content_type parameter bare_parameter named typed quoted closed unquoted first first_place holds stands starts_with lead
types = refl

pub exts :
    content_type_ext (text "\tboundary=\"q\"\r\n")
    ∷ content_type_ext (text "\tboundary=q;\r\n")
    ∷ content_type_ext (text "\tboundary=\"q\r\n")
    ∷ content_type_ext (text " boundary=q\r\n")
    ∷ []
    ≡ Some (span 11 1) ∷ Some (span 10 1) ∷ None ∷ None ∷ []
unfolding content_type_ext quoted closed unquoted first first_place holds starts_with lead
exts = refl

pub scans :
    (after unknown (text "Content-Type: a;\r\n" ∷ text "X: y\r\n" ∷ text "\tboundary=q\r\n" ∷ text "\tboundary=r\r\n" ∷ [])).boundary
    ∷ (after unknown (text "\tboundary=q\r\n" ∷ [])).boundary
    ∷ (after unknown (text "Content-Type: boundary=\"p\r\n" ∷ text "\tboundary=q\r\n" ∷ [])).boundary
    ∷ (after unknown (text "Content-Type: boundary=p\r\n" ∷ text "Content-Type: boundary=q\r\n" ∷ [])).boundary
    ∷ (after unknown (text "Content-Type: a\r\n" ∷ text "\tboundary=\"p\r\n" ∷ text "Content-Type: boundary=q\r\n" ∷ [])).boundary
    ∷ []
    ≡ Some (text "q") ∷ None ∷ None ∷ Some (text "p") ∷ Some (text "q") ∷ []
unfolding after scanned first_encoding by_boundary by_ext by_type transfer_encoding content_type parameter bare_parameter named typed content_type_ext quoted closed unquoted
    first first_place holds stands starts_with lead raised upper_of is_letter is_upper
scans = refl

abbrev field : String → List ℕ
field value = text "Content-Transfer-Encoding:" ++ text value

-- a valid line wins, before or behind one that is not recognised, and the first of two; without one it is not recognised, also where it is folded
pub first-encoding-wins :
    (after unknown (field " x\r\n" ∷ field " base64\r\n" ∷ field " 7bit\r\n" ∷ [])).encoding
    ∷ (after unknown (field " base64\r\n" ∷ field " x\r\n" ∷ [])).encoding
    ∷ (after unknown (field " x\r\n" ∷ text "To: d\r\n" ∷ field "\r\n" ∷ [])).encoding
    ∷ (after unknown (field "\r\n" ∷ text " 7bit\r\n" ∷ [])).encoding
    ∷ (after unknown (text "To: d\r\n" ∷ [])).encoding
    ∷ []
    ≡ Base64 ∷ Base64 ∷ Unrecognised ∷ Unrecognised ∷ Unsaid ∷ []
unfolding after scanned first_encoding by_boundary by_type transfer_encoding encoding_named behind_spaces content_type same starts_with lead raised upper_of is_letter is_upper
first-encoding-wins = refl

pub dash-lines :
    dash_bdry (text "q") (text "--q\r\n")
    ∷ dash_bdry (text "q") (text "--q--\r\n")
    ∷ dash_bdry (text "q") (text "--qx\r\n")
    ∷ dash_bdry (text "q") (text "--q\n")
    ∷ dash_bdry (text "\r") (text "--\r\n")
    ∷ dash_bdry (text "q") (text "-q\r\n")
    ∷ []
    ≡ true ∷ true ∷ true ∷ false ∷ true ∷ false ∷ []
unfolding dash_bdry ends_with same starts_with
dash-lines = refl

pub smtp-tests :
    starts_with_helo (text "helo a\r\n")
    ∷ starts_with_helo (text "EHLOX\n")
    ∷ starts_with_helo (text "HEL\n")
    ∷ is_mail_from (text "Mail From:<a>")
    ∷ is_data (text "data")
    ∷ is_data (text "DATA ")
    ∷ []
    ≡ true ∷ true ∷ false ∷ true ∷ true ∷ false ∷ []
unfolding starts_with_helo is_mail_from is_data same starts_with raised upper_of is_letter is_upper
smtp-tests = refl

pub second-lines :
    second_line (text "starttls") ∷ second_line (text "AUTH login") ∷ second_line (text "AUTH LOGIN x") ∷ second_line (text "mail from: <a>") ∷ second_line (text "") ∷ []
    ≡ second.StartTls ∷ second.AuthLogin ∷ second.Other ∷ second.MailFrom ∷ second.Other ∷ []
unfolding second_line is_mail_from same starts_with raised upper_of is_letter is_upper
second-lines = refl

pub addresses :
    mail_from (text "MAIL FROM: <b@c>")
    ∷ mail_from (text "MAIL FROM: <b@c")
    ∷ mail_from (text "MAIL FROM: <>")
    ∷ mail_from (text "MAIL FROM:<b>")
    ∷ mail_from (text "mail from: <b>")
    ∷ rcpt_to (text "RCPT TO: <d@e> x")
    ∷ rcpt_to (text "RCPT TO: <d@e")
    ∷ rcpt_to (text "RCPT TO:<d>")
    ∷ []
    ≡ Some (span 12 3) ∷ Some (span 12 3) ∷ Some (span 12 0) ∷ None ∷ None ∷ Some (span 10 3) ∷ None ∷ None ∷ []
unfolding mail_from rcpt_to up_to_end required closing first first_place holds starts_with
addresses = refl
