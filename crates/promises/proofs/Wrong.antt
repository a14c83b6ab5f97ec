-- Two wrong answers for each public contract, tried on an input that tells them: none of them meets it.
-- Assumes nothing.
use mathlib.Core.Path.{◌≡◌, refl}
use mathlib.Core.Bool.{Bool, true, false}
use mathlib.Core.List.{List, [], ◌∷◌, ◌++◌, map}
use Rattle.std.specs.Prelude.{Option, None, Some}
use Prim.Native.Nat.{ℕ}
use lib.ListN.{length, replicate}
use Rattle.classes.specs.Classes.{is_white, is_blank, is_pop_white, is_digit, is_letter, is_upper, upper_of}
use Rattle.direction.specs.Direction.{side, guess_number, guess, confirm}
use Rattle.direction.specs.declared.Guess.TheVariants.{Swapped}
use Rattle.events.specs.Events.{ev, numbers, result_number, encoding_number, kind_number, sized_body}
use Rattle.events.specs.Table.{Final, no_events, store, pour, finish, table_of}
use Rattle.events.specs.declared.Encoding.TheVariants.{Unsaid, Base64}
use Rattle.events.specs.declared.Kind.TheVariants as listed_as
use Rattle.events.specs.declared.Outcome.TheVariants.{TooDeep}
use Rattle.utf8.specs.Utf8.{octets_of, is_scalar, is_space, is_tail, lawful, sequence, opened, character, onto, behind, characters, size, is_utf8, dark_lead, dark_end}
use Rattle.fields.specs.Common.{encoding_named, behind_spaces, transfer_encoding, closed, quoted, unquoted, typed, named, bare_parameter, parameter, content_type, content_type_ext, first_encoding, by_type, by_ext, by_boundary, scanned, unknown, dash_bdry}
use Rattle.fields.specs.Imap.{append_follows, tag, is_append, dark, text_end, trimmed, braced, from_brace, size_of, append_size, holds_colon}
use Rattle.fields.specs.Pop3.{stls_answer, octets, octets_follow, numbered, retr_answer}
use Rattle.fields.specs.Runs.{lead, last, last_place, through, worth_behind, worth, up_to}
use Rattle.fields.specs.Smtp.{starts_with_helo, is_mail_from, second_line, is_data, up_to_end, closing as closingAt, mail_from, required, rcpt_to}
use Rattle.reading.specs.declared.Span.{Span}
use Rattle.fields.specs.declared.common.ContentType.{ContentType}
use Rattle.fields.specs.declared.common.ContentType.TheVariants as kind
use Rattle.fields.specs.declared.smtp.Second.{Second}
use Rattle.fields.specs.declared.smtp.Second.TheVariants as line
use Rattle.reading.proofs.Rows.{Row, ◌is-neither◌nor◌, met}
use Rattle.reading.specs.Bytes.{starts_with, same, ends_with, raised, first, first_place, holds, stands, found, contains}
use Rattle.reading.specs.Reading.{clean, drop_end, may_stand, delimits, past, reach, parted, fetch, a_line}
use Rattle.reading.specs.Text.{text}
use Rattle.rules.specs.Imap.{on_command, on_offered}
use Rattle.rules.specs.Machine.{turn, go, run as runs_on}
use Rattle.rules.specs.Mail.{after_mail, plain_mail, boundary_free, begun, on_head, on_text}
use Rattle.rules.specs.Phases.{wants, need}
use Rattle.rules.specs.Pop3.{on_status}
use Rattle.rules.specs.Sessions.{reacts, react, result_of, place_of, settle, answer, smtp_client, smtp_server, pop3_server, imap_client}
use Rattle.rules.specs.Smtp.{on_hello, given, by_second, on_second, by_recipient, on_recipient, on_reply}

-- ---- tests: one that always says yes, and one that never does
abbrev says_yes : List Bool
says_yes =
    is_white 11 ∷ is_blank 9 ∷ is_pop_white 10 ∷ is_digit 48 ∷ is_letter 97 ∷ is_upper 65
    ∷ starts_with (text "ab") (text "abc") ∷ starts_with (raised (text "ab")) (raised (text "ABc"))
    ∷ same (text "ab") (text "ab") ∷ same (raised (text "ab")) (raised (text "aB")) ∷ ends_with (text "bc") (text "abc") ∷ contains (raised (text "tls")) (raised (text "STLS"))
    ∷ dash_bdry (text "q") (text "--q--\r\n") ∷ is_append (text "a APPEND") ∷ holds_colon (text "a:")
    ∷ stls_answer (text "+OK Tls") ∷ retr_answer (text "+OK 1 octets") ∷ octets (text "4294967295")
    ∷ starts_with_helo (text "ehlo") ∷ is_mail_from (text "mail from:") ∷ is_data (text "data") ∷ is_utf8 (0xc2 ∷ 0xa0 ∷ [])
    ∷ []

abbrev says_no : List Bool
says_no =
    is_white 14 ∷ is_blank 10 ∷ is_pop_white 11 ∷ is_digit 58 ∷ is_letter 91 ∷ is_upper 97
    ∷ starts_with (text "ab") (text "a") ∷ starts_with (raised (text "ab")) (raised (text "AC"))
    ∷ same (text "ab") (text "abc") ∷ same (raised (text "ab")) (raised (text "a")) ∷ ends_with (text "bc") (text "bcd") ∷ contains (raised (text "tls")) (raised (text "tl"))
    ∷ dash_bdry (text "q") (text "--q\n") ∷ is_append (text "APPEND") ∷ holds_colon (text "a")
    ∷ stls_answer (text "-ERR tls") ∷ retr_answer (text "+OK12 octets") ∷ octets (text "4294967296")
    ∷ starts_with_helo (text "helx") ∷ is_mail_from (text "mail from") ∷ is_data (text "dat") ∷ is_utf8 (0xc0 ∷ 0xa0 ∷ [])
    ∷ []

pub neither_always_nor_never : (says_yes ≡ replicate 22 true) × (says_no ≡ replicate 22 false)
unfolding is_white is_blank is_pop_white is_digit is_letter is_upper upper_of starts_with same ends_with raised contains found first first_place stands holds
    dash_bdry is_append tag is_utf8 size dark_lead is_space characters behind onto character opened sequence lawful is_tail is_scalar octets_of append_follows lead
    holds_colon stls_answer retr_answer numbered octets octets_follow worth worth_behind starts_with_helo is_mail_from is_data
neither_always_nor_never = (refl, refl)

-- ---- answers as numbers
abbrev place : Option ℕ → List ℕ
place (Some p) = p ∷ []
place None = []

abbrev bound : Option Span → List ℕ
bound (Some b) = b.at ∷ b.len ∷ []
bound None = []

abbrev type : ContentType → List ℕ
type kind.Other = 0 ∷ []
type kind.Plain = 1 ∷ []
type (kind.Bounded b) = 2 ∷ b.at ∷ b.len ∷ []

abbrev worth_of : Option ℕ → List ℕ
worth_of (Some n) = n ∷ []
worth_of None = []

abbrev found_at : Option Span → List ℕ
found_at (Some s) = s.at ∷ s.len ∷ []
found_at None = []

abbrev second : Second → List ℕ
second line.StartTls = 0 ∷ []
second line.AuthLogin = 1 ∷ []
second line.MailFrom = 2 ∷ []
second line.Other = 3 ∷ []

abbrev known : Option (List ℕ) → List ℕ
known (Some b) = b
known None = []

abbrev uuencoded : List ℕ
uuencoded = text "Content-Transfer-Encoding: x-uuencode\r\n"

abbrev seven_bit : List ℕ
seven_bit = text "Content-Transfer-Encoding: 7bit\r\n"

abbrev leaves : List Row
leaves =
    -- upper: as it was; moved though it is no letter
    (upper_of 97 ∷ upper_of 123 ∷ [] is-neither 97 ∷ 123 ∷ [] nor 65 ∷ 91 ∷ []) ∷
    -- line_end: without the LF; the last line's
    (place (reach a_line (text "a\nb\n")) is-neither 1 ∷ [] nor 4 ∷ []) ∷
    -- find_byte, find: the last place; none
    (place (first_place (holds 98 (text "abb")) (text "abb")) is-neither 2 ∷ [] nor []) ∷
    (place (first_place (stands (text "bb") (text "abbb")) (text "abbb")) is-neither 2 ∷ [] nor []) ∷
    -- clean_end: both CRs dropped; none
    (length (clean (text "a\r\r\n")) ∷ [] is-neither 1 ∷ [] nor 3 ∷ []) ∷
    -- delimiter: inside a line; with the CRLF before it
    (place (first_place (delimits (text "q") (text "x--q\r\n--q")) (text "x--q\r\n--q")) is-neither 1 ∷ [] nor 4 ∷ []) ∷
    -- Event::new: offset and length changed over; no encoding
    (numbers (ev sized_body 25 3 Base64) is-neither 4 ∷ 3 ∷ 25 ∷ 5 ∷ [] nor 4 ∷ 25 ∷ 3 ∷ 0 ∷ []) ∷
    -- put: nothing written; a number past the slot written
    (table_of (7 ∷ 7 ∷ 7 ∷ 7 ∷ 7 ∷ []) no_events (ev sized_body 25 3 Base64) is-neither 7 ∷ 7 ∷ 7 ∷ 7 ∷ 7 ∷ [] nor 4 ∷ 25 ∷ 3 ∷ 5 ∷ 0 ∷ []) ∷
    -- number of a kind, of an encoding, of a result, of a guess: the next one; 0
    (kind_number listed_as.Password ∷ [] is-neither 11 ∷ [] nor 0 ∷ []) ∷
    (encoding_number Base64 ∷ [] is-neither 6 ∷ [] nor 0 ∷ []) ∷
    (result_number TooDeep ∷ [] is-neither 10 ∷ [] nor 0 ∷ []) ∷
    (guess_number Swapped ∷ [] is-neither 2 ∷ [] nor 0 ∷ []) ∷
    -- dir_confirm: as given; unknown
    (guess_number (guess 1 (side 25 false []) (side 9 false [])) ∷ [] is-neither 0 ∷ [] nor 2 ∷ []) ∷
    -- transfer_encoding: of this case only; another one
    (encoding_number (transfer_encoding (text "content-transfer-encoding:BASE64\r\n")) ∷ [] is-neither 0 ∷ [] nor 4 ∷ []) ∷
    -- first_encoding: what is not recognised counts as none; it stays before a valid one
    (encoding_number (first_encoding Unsaid uuencoded) ∷ encoding_number (first_encoding (transfer_encoding uuencoded) seven_bit) ∷ []
    is-neither 0 ∷ 1 ∷ [] nor 6 ∷ 6 ∷ []) ∷
    -- content_type: with its quotes; no boundary
    (type (content_type (text "Content-Type: boundary=\"q\"\r\n")) is-neither 2 ∷ 23 ∷ 3 ∷ [] nor 1 ∷ []) ∷
    -- content_type_ext: the LF left out; nothing
    (bound (content_type_ext (text "\tboundary=q\n")) is-neither 10 ∷ 1 ∷ [] nor []) ∷
    -- scan_line: the last boundary wins; none is known
    (known (scanned (scanned unknown (text "Content-Type: boundary=q\r\n")) (text "Content-Type: boundary=z\r\n")).boundary is-neither text "z" nor []) ∷
    -- append_size: the first brace closes all; too large a number wraps
    (append_size (text "{10}}") ∷ append_size (text "{18446744073709551616}") ∷ [] is-neither 0 ∷ 0 ∷ [] nor 10 ∷ 18446744073709551616 ∷ []) ∷
    -- dark_lead and dark_end of utf8: a no-break space is none; one octet of it is left
    (dark_lead (characters (97 ∷ 0xc2 ∷ 0xa0 ∷ [])) ∷ [] is-neither 3 ∷ [] nor 2 ∷ []) ∷
    (dark_end (characters (97 ∷ 0xc2 ∷ 0xa0 ∷ [])) ∷ [] is-neither 3 ∷ [] nor 2 ∷ []) ∷
    -- leading: one too many; none
    (lead is_digit (text "12a") ∷ [] is-neither 3 ∷ [] nor 0 ∷ []) ∷
    -- find_last: the first place; none
    (place (last_place (holds 98 (text "abb")) (text "abb")) is-neither 1 ∷ [] nor []) ∷
    -- decimal: above its bound; in the other order
    (worth_of (up_to 20 (worth (text "12"))) is-neither [] nor 21 ∷ []) ∷
    -- second_line: anything else; STARTTLS
    (second (second_line (text "auth login")) is-neither 3 ∷ [] nor 0 ∷ []) ∷
    -- mail_from: with the >; nothing where it has none
    (found_at (mail_from (text "MAIL FROM: <b>")) ++ found_at (mail_from (text "MAIL FROM: <b")) is-neither 12 ∷ 2 ∷ 12 ∷ 1 ∷ [] nor 12 ∷ 1 ∷ []) ∷
    -- rcpt_to: with the >; up to the line's end where it has none
    (found_at (rcpt_to (text "RCPT TO: <b>")) ++ found_at (rcpt_to (text "RCPT TO: <b")) is-neither 10 ∷ 2 ∷ [] nor 10 ∷ 1 ∷ 10 ∷ 1 ∷ []) ∷
    []

-- ---- the entries and `dissect`
abbrev outcome : Final → List ℕ
outcome f = result_number f.result ∷ f.place ∷ f.count ∷ f.table

abbrev greeting : List ℕ
greeting = text "EHLO a\r\nMAIL FROM: <b@c>\r\n"

-- a POP3 server's mail, and what is listed of it
abbrev mail : List ℕ
mail = text "+OK 1 octets\n\r\n.\r\n"

abbrev listed : List ℕ
listed = 8 ∷ 0 ∷ 12 ∷ 0 ∷ 1 ∷ 13 ∷ 2 ∷ 0 ∷ 2 ∷ 15 ∷ 0 ∷ 0 ∷ 6 ∷ 15 ∷ 0 ∷ 0 ∷ []

abbrev dissectors : List Row
dissectors =
    -- one that refuses everything; one that writes nothing
    (outcome (smtp_client (replicate 4 99) greeting) is-neither 3 ∷ 0 ∷ 0 ∷ replicate 4 99 nor 1 ∷ 26 ∷ 1 ∷ replicate 4 99) ∷
    -- one with a constant answer; one that writes nothing
    (outcome (smtp_server (replicate 4 99) (text "221\n")) is-neither 1 ∷ 0 ∷ 0 ∷ replicate 4 99 nor 0 ∷ 4 ∷ 1 ∷ replicate 4 99) ∷
    -- two whose count is made up
    (outcome (pop3_server (replicate 8 99) (text "+OK\n+OK tls\n"))
    is-neither 0 ∷ 12 ∷ 1 ∷ 8 ∷ 0 ∷ 3 ∷ 0 ∷ replicate 4 99
    nor 0 ∷ 12 ∷ 3 ∷ 8 ∷ 0 ∷ 3 ∷ 0 ∷ 8 ∷ 4 ∷ 7 ∷ 0 ∷ []) ∷
    -- one that reads the first mail and invents the later one; one that passes it over
    (outcome (pop3_server (replicate 32 99) (mail ++ mail)) is-neither 1 ∷ 36 ∷ 8 ∷ (listed ++ listed) nor 1 ∷ 36 ∷ 4 ∷ (listed ++ replicate 16 99)) ∷
    -- one that is done too soon; one that writes nothing
    (outcome (imap_client (replicate 4 99) (text "a\nb")) is-neither 0 ∷ 2 ∷ 1 ∷ 7 ∷ 0 ∷ 1 ∷ 0 ∷ [] nor 1 ∷ 2 ∷ 1 ∷ replicate 4 99) ∷
    []

pub wrong_answers : map met (leaves ++ dissectors) ≡ replicate 32 false
unfolding answer settle result_of place_of react reacts need wants runs_on go turn fetch parted reach past first first_place holds stands found contains
    delimits may_stand starts_with same ends_with raised clean drop_end upper_of is_letter is_upper is_white is_blank is_pop_white is_digit store pour finish
    lead last last_place through worth worth_behind up_to transfer_encoding encoding_named behind_spaces closed quoted unquoted typed named bare_parameter
    parameter content_type content_type_ext first_encoding by_type by_ext by_boundary scanned dash_bdry starts_with_helo is_mail_from second_line is_data up_to_end
    closingAt mail_from required rcpt_to stls_answer octets octets_follow numbered retr_answer append_follows tag is_append dark text_end trimmed braced
    is_utf8 size dark_lead dark_end is_space characters behind onto character opened sequence lawful is_tail is_scalar octets_of from_brace size_of
    append_size holds_colon after_mail plain_mail boundary_free begun on_head on_text on_hello given by_second on_second on_recipient by_recipient on_reply on_status
    on_command on_offered guess confirm
wrong_answers = refl
