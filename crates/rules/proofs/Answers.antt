-- The definition, computed: document 01's small proved set, and telling sessions with the answers that the oracle gives.
-- Assumes nothing.
use mathlib.Core.Path.{◌≡◌, refl}
use mathlib.Core.List.{List, [], ◌∷◌, ◌++◌, map}
use Prim.Native.Nat.{ℕ, ◌+◌, ◌*◌, ◌-◌}
use Prim.Native.String.{String}
use lib.ListN.{length, replicate}
use Rattle.classes.specs.Classes.{upper_of, is_letter, is_upper, is_white, is_blank, is_pop_white, is_digit}
use Rattle.events.specs.Events.{result_number}
use Rattle.events.specs.Table.{Final, store, pour, finish}
use Rattle.reading.specs.Text.{text}
use Rattle.reading.specs.Bytes.{starts_with, same, ends_with, raised, first, first_place, holds, stands, found, contains}
use Rattle.reading.specs.Reading.{clean, drop_end, may_stand, delimits, past, reach, parted, fetch}
use Rattle.utf8.specs.Utf8.{octets_of, is_scalar, is_space, is_tail, lawful, sequence, opened, character, onto, behind, characters, size, is_utf8, dark_lead, dark_end}
use Rattle.fields.specs.Runs.{lead, last, last_place, through, worth_behind, worth}
use Rattle.fields.specs.Common.{encoding_named, behind_spaces, transfer_encoding, closed, quoted, unquoted, typed, named, bare_parameter, parameter, content_type, content_type_ext, first_encoding, by_type, by_ext, by_boundary, scanned, dash_bdry}
use Rattle.fields.specs.Smtp.{starts_with_helo, is_mail_from, second_line, is_data, up_to_end, closing as closingAt, mail_from, required, rcpt_to}
use Rattle.fields.specs.Pop3.{stls_answer, octets, octets_follow, numbered, retr_answer}
use Rattle.fields.specs.Imap.{append_follows, tag, is_append, dark, text_end, trimmed, braced, from_brace, size_of, append_size, holds_colon}
use Rattle.rules.specs.Machine.{turn, go, run}
use Rattle.rules.specs.Phases.{wants, need}
use Rattle.rules.specs.Mail.{after_mail, literal_body, rest, plain_mail, boundary_free, begun, on_head, on_text, held, whole, on_literal, on_preamble, on_opened, content_length, on_content, outermost, by_rest, skip, on_between, last_line, popped, on_skipping, on_resting}
use Rattle.rules.specs.Smtp.{on_hello, given, by_second, on_second, on_user, on_password, on_sender, on_seeking, by_recipient, on_recipient, on_reply}
use Rattle.rules.specs.Pop3.{on_status}
use Rattle.rules.specs.Imap.{on_command, on_offered, on_closing}
use Rattle.rules.specs.Sessions.{reacts, react, result_of, place_of, settle, answer, answer_of}
use Rattle.rules.specs.declared.Entry.{Entry}
use Rattle.rules.specs.declared.Entry.TheVariants.{SmtpClient, SmtpServer, Pop3Server, ImapClient}

-- what the definition answers, and what is wanted, as numbers
record Case : Type 0 where
  answers : List ℕ
  wanted : List ℕ

-- an event as it is listed: kind, offset, length, encoding
abbrev Listed : Type 0
Listed = ℕ × ℕ × ℕ × ℕ

abbrev flat : List Listed → List ℕ
flat [] = []
flat (e ∷ es) = e.0 ∷ e.1 ∷ e.2 ∷ e.3 ∷ flat es

-- result, place, count, then the table
abbrev told : Final → List ℕ
told f = result_number f.result ∷ f.place ∷ f.count ∷ f.table

-- a table of n numbers, each 99; the session's bytes; the events wanted, result and place
abbrev within : ℕ → Entry → List ℕ → List Listed → ℕ → ℕ → Case
within n e s es r p =
    record {
      answers = told (answer_of e (replicate n 99) s);
      wanted = r ∷ p ∷ length es ∷ (flat es ++ replicate (n - 4 * length es) 99);
    }

-- a table with a slot over
abbrev on : Entry → List ℕ → List Listed → ℕ → ℕ → Case
on e s es r p = within (4 * length es + 4) e s es r p

-- ---- document 01's (*) cases

abbrev mail : List ℕ
mail = text "EHLO a\r\nMAIL FROM: <b@c>\r\nRCPT TO: <d@e>\r\nDATA\r\nTo: d\r\n\r\nhi\r\n.\r\n"

-- the example with room, with 7 slots and with 6
abbrev example : List Case
example =
    within 32 SmtpClient mail
    ((11, 20, 3, 0) ∷ (12, 36, 3, 0) ∷ (1, 48, 7, 0) ∷ (1, 55, 2, 0) ∷ (2, 57, 0, 0) ∷ (3, 57, 4, 0) ∷ (6, 61, 0, 0) ∷ []) 0 64 ∷
    within 29 SmtpClient mail
    ((11, 20, 3, 0) ∷ (12, 36, 3, 0) ∷ (1, 48, 7, 0) ∷ (1, 55, 2, 0) ∷ (2, 57, 0, 0) ∷ (3, 57, 4, 0) ∷ (6, 61, 0, 0) ∷ []) 0 64 ∷
    within 25 SmtpClient mail
    ((11, 20, 3, 0) ∷ (12, 36, 3, 0) ∷ (1, 48, 7, 0) ∷ (1, 55, 2, 0) ∷ (2, 57, 0, 0) ∷ (3, 57, 4, 0) ∷ []) 10 61 ∷
    []

-- empty buffers
abbrev empty : List Case
empty =
    on SmtpClient (text "") [] 1 0 ∷
    on SmtpServer (text "") [] 1 0 ∷
    on Pop3Server (text "") [] 1 0 ∷
    on ImapClient (text "") [] 1 0 ∷
    []

-- the answers to RETR
abbrev retrs : List Case
retrs =
    on Pop3Server (text "+OK 4294967295 octets\r\nT: u\r\n\r\n.\r\n")
    ((8, 0, 21, 0) ∷ (1, 23, 6, 0) ∷ (1, 29, 2, 0) ∷ (2, 31, 0, 0) ∷ (6, 31, 0, 0) ∷ []) 1 34 ∷
    on Pop3Server (text "+OK 4294967296 octets\r\nT: u\r\n\r\n.\r\n")
    ((8, 0, 21, 0) ∷ (8, 23, 4, 0) ∷ (8, 29, 0, 0) ∷ (8, 31, 1, 0) ∷ []) 1 34 ∷
    on Pop3Server (text "+OK 0000000000007 octetsX\r\nT: u\r\n\r\n.\r\n")
    ((8, 0, 25, 0) ∷ (1, 27, 6, 0) ∷ (1, 33, 2, 0) ∷ (2, 35, 0, 0) ∷ (6, 35, 0, 0) ∷ []) 1 38 ∷
    []

-- what stands in an APPEND's braces; a literal larger than its header, as large, smaller
abbrev literals : List Case
literals =
    on ImapClient (text "a APPEND x {10}}\r\nT: u\r\n\r\nhi\r\n")
    ((7, 0, 16, 0) ∷ (1, 18, 6, 0) ∷ (1, 24, 2, 0) ∷ (2, 26, 0, 0) ∷ (4, 26, 2, 0) ∷ (6, 28, 0, 0) ∷ []) 1 30 ∷
    on ImapClient (text "a APPEND x {10+}\r\nT: u\r\n\r\nhi\r\n") ((7, 0, 16, 0) ∷ (1, 18, 6, 0) ∷ (1, 24, 2, 0) ∷ []) 7 26 ∷
    on ImapClient (text "a APPEND x {}\r\nT: u\r\n\r\nhi\r\n") ((7, 0, 13, 0) ∷ (1, 15, 6, 0) ∷ (1, 21, 2, 0) ∷ []) 7 23 ∷
    on ImapClient (text "a APPEND x {18446744073709551616}\r\nT: u\r\n\r\nhi\r\n") ((7, 0, 33, 0) ∷ (1, 35, 6, 0) ∷ (1, 41, 2, 0) ∷ []) 7 43 ∷
    on ImapClient (text "a APPEND x {11}\r\nT: u\r\n\r\nhey\r\n")
    ((7, 0, 15, 0) ∷ (1, 17, 6, 0) ∷ (1, 23, 2, 0) ∷ (2, 25, 0, 0) ∷ (4, 25, 3, 0) ∷ (6, 28, 0, 0) ∷ []) 1 30 ∷
    on ImapClient (text "a APPEND x {08}\r\nT: u\r\n\r\nhey\r\n")
    ((7, 0, 15, 0) ∷ (1, 17, 6, 0) ∷ (1, 23, 2, 0) ∷ (2, 25, 0, 0) ∷ (6, 25, 0, 0) ∷ []) 8 25 ∷
    on ImapClient (text "a APPEND x {07}\r\nT: u\r\n\r\nhey\r\n") ((7, 0, 15, 0) ∷ (1, 17, 6, 0) ∷ (1, 23, 2, 0) ∷ []) 7 25 ∷
    []

-- boundary q: content, none of it, and no delimiter
abbrev parts : List Case
parts =
    on Pop3Server (text "+OK 1 octets\r\nContent-Type: boundary=q\r\n\r\n--q\r\n\r\nabc\r\n--q")
    ((8, 0, 12, 0) ∷ (1, 14, 26, 0) ∷ (1, 40, 2, 0) ∷ (1, 47, 2, 0) ∷ (2, 49, 0, 0) ∷ (5, 49, 3, 0) ∷ (6, 52, 0, 0) ∷ []) 1 57 ∷
    on Pop3Server (text "+OK 1 octets\r\nContent-Type: boundary=q\r\n\r\n--q\r\n\r\n--q")
    ((8, 0, 12, 0) ∷ (1, 14, 26, 0) ∷ (1, 40, 2, 0) ∷ (1, 47, 2, 0) ∷ (2, 49, 0, 0) ∷ (6, 49, 0, 0) ∷ []) 1 52 ∷
    on Pop3Server (text "+OK 1 octets\r\nContent-Type: boundary=q\r\n\r\n--q\r\n\r\nx--q")
    ((8, 0, 12, 0) ∷ (1, 14, 26, 0) ∷ (1, 40, 2, 0) ∷ (1, 47, 2, 0) ∷ (2, 49, 0, 0) ∷ []) 1 49 ∷
    []

abbrev small : List Case
small = example ++ empty ++ retrs ++ literals ++ parts

-- ---- telling sessions: each is the case of a sentence that an edit of the rules could bend

-- a multipart, opened inside whatever is open
abbrev opens : String → List ℕ
opens b = text "Content-Type: boundary=" ++ (text b ++ (text "\r\n\r\n--" ++ (text b ++ text "\r\n")))

-- SMTP
abbrev envelopes : List Case
envelopes =
    -- a login, a sender up to its line's end, a mail whose dots stay doubled, its encoding
    on SmtpClient (text "Helo d\r\nAuth Login\r\nu\r\np\r\nMAIL FROM: <a\r\nRCPT TO: <b>\r\nData\r\nContent-Transfer-Encoding:7bit\r\n\r\n..\r\n.\r\n")
    ((9, 20, 1, 0) ∷ (10, 23, 1, 0) ∷ (11, 38, 1, 0) ∷ (12, 51, 1, 0) ∷ (1, 61, 32, 0) ∷ (1, 93, 2, 0) ∷ (2, 95, 0, 0) ∷ (3, 95, 4, 1) ∷ (6, 99, 0, 0) ∷ []) 0 102 ∷
    -- the line behind the password is tried as sender, whatever it is
    on SmtpClient (text "EHLO\nAUTH LOGIN\n\n\nAUTH LOGIN\n\n") ((9, 16, 0, 0) ∷ (10, 17, 0, 0) ∷ []) 5 29 ∷
    -- lines skipped, STARTTLS among them; a recipient that fails
    on SmtpClient (text "EHLO\nNOOP\nSTARTTLS\nRSET\nMAIL FROM: <a\r\nRCPT TO:<b>\n") ((11, 36, 1, 0) ∷ []) 5 39 ∷
    -- no hello; STARTTLS
    on SmtpClient (text "X\n") [] 3 0 ∷
    on SmtpClient (text "ehlo\r\nstarttls\r\n") [] 4 6 ∷
    -- a server's lines, up to 221
    on SmtpServer (text "220 a\n\r\n221\n") ((8, 0, 5, 0) ∷ (8, 6, 0, 0) ∷ (8, 8, 3, 0) ∷ []) 0 12 ∷
    []

-- mails without a boundary
abbrev mails : List Case
mails =
    -- a dot line in a header, the first valid encoding, bare LFs, the mail's end, the session's
    on Pop3Server (text "+OK 2 octets\r\nA: b\r\n.\r\nContent-Transfer-Encoding: x\r\nContent-Transfer-Encoding: BASE64\r\n"
    ++ text "Content-Transfer-Encoding: 7bit\r\n\r\nhi\n.\n.\r\n+OK\r\n+OK STLS\r\n")
    ((8, 0, 12, 0) ∷ (1, 14, 6, 0) ∷ (1, 20, 3, 0) ∷ (1, 23, 30, 0) ∷ (1, 53, 35, 0) ∷ (1, 88, 33, 0) ∷ (1, 121, 2, 0) ∷ (2, 123, 0, 0)
    ∷ (3, 123, 3, 5) ∷ (3, 126, 2, 5) ∷ (6, 128, 0, 0) ∷ (8, 131, 3, 0) ∷ (8, 136, 8, 0) ∷ []) 0 146 ∷
    -- a line that is only peeked at and has no colon is a command; a literal and its encoding
    on ImapClient (text "a APPEND {99}\r\nb\r\nc APPEND {35}\r\nContent-Transfer-Encoding:7bit\r\n\r\nx\r\n:\n")
    ((7, 0, 13, 0) ∷ (7, 15, 1, 0) ∷ (7, 18, 13, 0) ∷ (1, 33, 32, 0) ∷ (1, 65, 2, 0) ∷ (2, 67, 0, 0) ∷ (4, 67, 1, 1) ∷ (6, 68, 0, 0) ∷ (7, 70, 1, 0) ∷ []) 1 72 ∷
    []

-- a POP3 mail of one line: its header's lines, how they are listed, and the encoding of its body
abbrev encoded : List ℕ → List Listed → ℕ → Case
encoded h ls e =
    let n = 14 + length h in
    on Pop3Server (text "+OK 1 octets\r\n" ++ (h ++ text "\r\nx\r\n.\r\n"))
    ((8, 0, 12, 0) ∷ (ls ++ ((1, n, 2, 0) ∷ (2, n + 2, 0, 0) ∷ (3, n + 2, 3, e) ∷ (6, n + 5, 0, 0) ∷ []))) 1 (n + 8)

-- an encoding that is said and not recognised; which of two counts; what opens otherwise
abbrev encodings : List Case
encodings =
    encoded (text "Content-Transfer-Encoding: x-uuencode\r\n") ((1, 14, 39, 0) ∷ []) 6 ∷
    encoded (text "Content-Transfer-Encoding: 7bit\n") ((1, 14, 32, 0) ∷ []) 6 ∷
    encoded (text "Content-Transfer-Encoding:\t7bit\r\n") ((1, 14, 33, 0) ∷ []) 6 ∷
    encoded (text "Content-Transfer-Encoding: 7bit \r\n") ((1, 14, 34, 0) ∷ []) 6 ∷
    encoded (text "Content-Transfer-Encoding:\r\n") ((1, 14, 28, 0) ∷ []) 6 ∷
    encoded (text "Content-Transfer-Encoding:\r\n 7bit\r\n") ((1, 14, 28, 0) ∷ (1, 42, 7, 0) ∷ []) 6 ∷
    encoded (text "Content-Transfer-Encoding: x-uuencode\r\nContent-Transfer-Encoding: base64\r\n") ((1, 14, 39, 0) ∷ (1, 53, 35, 0) ∷ []) 5 ∷
    encoded (text "Content-Transfer-Encoding: base64\r\nContent-Transfer-Encoding: x-uuencode\r\n") ((1, 14, 35, 0) ∷ (1, 49, 39, 0) ∷ []) 5 ∷
    encoded (text "Content-Transfer-Encoding : 7bit\r\n") ((1, 14, 34, 0) ∷ []) 0 ∷
    -- a literal
    on ImapClient (text "a APPEND {33}\r\nContent-Transfer-Encoding: x\r\n\r\ny\r\n")
    ((7, 0, 13, 0) ∷ (1, 15, 30, 0) ∷ (1, 45, 2, 0) ∷ (2, 47, 0, 0) ∷ (4, 47, 1, 6) ∷ (6, 48, 0, 0) ∷ []) 1 50 ∷
    -- a part goes by its own header
    on Pop3Server (text "+OK 1 octets\r\nContent-Type: boundary=q\r\nContent-Transfer-Encoding: base64\r\n\r\n"
    ++ text "--q\r\nContent-Transfer-Encoding: x-uuencode\r\n\r\nx\r\n--q")
    ((8, 0, 12, 0) ∷ (1, 14, 26, 0) ∷ (1, 40, 35, 0) ∷ (1, 75, 2, 0) ∷ (1, 82, 39, 0) ∷ (1, 121, 2, 0) ∷ (2, 123, 0, 0) ∷ (5, 123, 1, 6) ∷ (6, 124, 0, 0) ∷ []) 1 129 ∷
    []

abbrev eight : List ℕ → List ℕ
eight s = text "+OK 1 octets\r\n" ++ (opens "1" ++ (opens "2" ++ (opens "3" ++ (opens "4" ++ (opens "5" ++ (opens "6" ++ (opens "7" ++ (opens "8" ++ s))))))))

-- multiparts
abbrev multiparts : List Case
multiparts =
    -- no close before the first part
    on Pop3Server (text "+OK 1 octets\r\nContent-Type: boundary=q\r\n\r\n--q--\r\n") ((8, 0, 12, 0) ∷ (1, 14, 26, 0) ∷ (1, 40, 2, 0) ∷ []) 6 45 ∷
    -- behind each of two inner closes: lines up to the outermost boundary, then a header of the level outside; behind the outermost close a dot line
    on SmtpClient (text "EHLO\nMAIL FROM: <a\r\nDATA\n" ++ (opens "qq" ++ (opens "m" ++ (opens "r"
    ++ text "\r\n--r--\r\n--r\r\n--m\r\n--qq\r\n\r\nx\r\n--m--\r\n--qq\r\n\r\n--qq--\r\n.\r\n"))))
    ((11, 17, 1, 0) ∷ (1, 25, 27, 0) ∷ (1, 52, 2, 0) ∷ (1, 60, 26, 0) ∷ (1, 86, 2, 0) ∷ (1, 93, 26, 0) ∷ (1, 119, 2, 0) ∷ (1, 126, 2, 0)
    ∷ (2, 128, 0, 0) ∷ (6, 128, 0, 0) ∷ (1, 151, 2, 0) ∷ (2, 153, 0, 0) ∷ (5, 153, 1, 0) ∷ (6, 154, 0, 0) ∷ (1, 169, 2, 0) ∷ (2, 171, 0, 0)
    ∷ (6, 171, 0, 0) ∷ []) 0 182 ∷
    -- a folded boundary, a preamble, a dot line as content, an encoding, a part without content; a dash line and a dot line behind a close
    on Pop3Server (text "+OK 1 octets\r\nContent-Type: a\r\n\tboundary=\"qq\"\r\n\r\np\r\n--qq\r\n\r\n.\r\n"
    ++ (text "--qq\r\nContent-Transfer-Encoding: 8bit\r\n\r\nx\r\n--qq\r\n\r\n--qq--x\r\n--qq\r\n"
    ++ (text "+OK 1 octets\r\n" ++ (opens "qq" ++ text "\r\n--qq--\r\ny\r\n.\r\n+OK\r\n"))))
    ((8, 0, 12, 0) ∷ (1, 14, 17, 0) ∷ (1, 31, 16, 0) ∷ (1, 47, 2, 0) ∷ (1, 58, 2, 0) ∷ (2, 60, 0, 0) ∷ (5, 60, 1, 0) ∷ (6, 61, 0, 0)
    ∷ (1, 69, 33, 0) ∷ (1, 102, 2, 0) ∷ (2, 104, 0, 0) ∷ (5, 104, 1, 2) ∷ (6, 105, 0, 0) ∷ (1, 113, 2, 0) ∷ (2, 115, 0, 0) ∷ (6, 115, 0, 0)
    ∷ (8, 130, 12, 0) ∷ (1, 144, 27, 0) ∷ (1, 171, 2, 0) ∷ (1, 179, 2, 0) ∷ (2, 181, 0, 0) ∷ (6, 181, 0, 0) ∷ (8, 195, 3, 0) ∷ []) 1 200 ∷
    -- eight levels, and behind the innermost content a delimiter that neither a part nor the close follows
    on Pop3Server (eight (text "\r\nx\r\n--8.\r\n"))
    ((8, 0, 12, 0) ∷ (1, 14, 26, 0) ∷ (1, 40, 2, 0) ∷ (1, 47, 26, 0) ∷ (1, 73, 2, 0) ∷ (1, 80, 26, 0) ∷ (1, 106, 2, 0) ∷ (1, 113, 26, 0)
    ∷ (1, 139, 2, 0) ∷ (1, 146, 26, 0) ∷ (1, 172, 2, 0) ∷ (1, 179, 26, 0) ∷ (1, 205, 2, 0) ∷ (1, 212, 26, 0) ∷ (1, 238, 2, 0) ∷ (1, 245, 26, 0)
    ∷ (1, 271, 2, 0) ∷ (1, 278, 2, 0) ∷ (2, 280, 0, 0) ∷ (5, 280, 1, 0) ∷ (6, 281, 0, 0) ∷ []) 6 286 ∷
    -- a ninth
    on Pop3Server (eight (text "Content-Type: boundary=9\r\n\r\n"))
    ((8, 0, 12, 0) ∷ (1, 14, 26, 0) ∷ (1, 40, 2, 0) ∷ (1, 47, 26, 0) ∷ (1, 73, 2, 0) ∷ (1, 80, 26, 0) ∷ (1, 106, 2, 0) ∷ (1, 113, 26, 0)
    ∷ (1, 139, 2, 0) ∷ (1, 146, 26, 0) ∷ (1, 172, 2, 0) ∷ (1, 179, 26, 0) ∷ (1, 205, 2, 0) ∷ (1, 212, 26, 0) ∷ (1, 238, 2, 0) ∷ (1, 245, 26, 0)
    ∷ (1, 271, 2, 0) ∷ (1, 278, 26, 0) ∷ (1, 304, 2, 0) ∷ []) 9 306 ∷
    []

-- what is left of a literal behind a close
abbrev rests : List Case
rests =
    -- a rest of 1 behind an inner close, below the outermost boundary's length of 2: it is skipped
    on ImapClient (text "a APPEND {76}\r\n" ++ (opens "qq" ++ (opens "r" ++ text "\r\n--r--\r\nA: b\r\n")))
    ((7, 0, 13, 0) ∷ (1, 15, 27, 0) ∷ (1, 42, 2, 0) ∷ (1, 50, 26, 0) ∷ (1, 76, 2, 0) ∷ (1, 83, 2, 0) ∷ (2, 85, 0, 0) ∷ (6, 85, 0, 0)
    ∷ (1, 91, 1, 0) ∷ (1, 92, 6, 0) ∷ []) 1 98 ∷
    -- a rest of 2 is not: a line is skipped, and once the literal is passed another
    on ImapClient (text "a APPEND {77}\r\n" ++ (opens "qq" ++ (opens "r" ++ text "\r\n--r--\r\nA: b\r\n")))
    ((7, 0, 13, 0) ∷ (1, 15, 27, 0) ∷ (1, 42, 2, 0) ∷ (1, 50, 26, 0) ∷ (1, 76, 2, 0) ∷ (1, 83, 2, 0) ∷ (2, 85, 0, 0) ∷ (6, 85, 0, 0) ∷ []) 1 98 ∷
    -- a rest of 3 is not: a line is skipped, and then the rest of 1
    on ImapClient (text "a APPEND {78}\r\n" ++ (opens "qq" ++ (opens "r" ++ text "\r\n--r--\r\nA: b\r\n")))
    ((7, 0, 13, 0) ∷ (1, 15, 27, 0) ∷ (1, 42, 2, 0) ∷ (1, 50, 26, 0) ∷ (1, 76, 2, 0) ∷ (1, 83, 2, 0) ∷ (2, 85, 0, 0) ∷ (6, 85, 0, 0) ∷ (1, 93, 5, 0) ∷ []) 1 98 ∷
    -- a dot line behind a close ends nothing in IMAP
    on ImapClient (text "a APPEND {99}\r\n" ++ (opens "q" ++ text "\r\n--q--\r\n.\r\n--q\r\n\r\nb\r\n"))
    ((7, 0, 13, 0) ∷ (1, 15, 26, 0) ∷ (1, 41, 2, 0) ∷ (1, 48, 2, 0) ∷ (2, 50, 0, 0) ∷ (6, 50, 0, 0) ∷ (7, 67, 1, 0) ∷ []) 1 70 ∷
    []

-- white space above 127 in an append's line (document 02, W8)
abbrev wides : List Case
wides =
    -- a no-break space behind the brace: the size is 4
    on ImapClient (text "a APPEND{4}" ++ (0xc2 ∷ 0xa0 ∷ text "\n:\n\r\n"))
    ((7, 0, 13, 0) ∷ (1, 14, 2, 0) ∷ (1, 16, 2, 0) ∷ (2, 18, 0, 0) ∷ (6, 18, 0, 0) ∷ []) 1 18 ∷
    -- its last octet alone, and a whole one in a line that has another byte too many: no UTF-8, and the size is 0
    on ImapClient (text "a APPEND{4}" ++ (0xa0 ∷ text "\n:\n\r\n"))
    ((7, 0, 12, 0) ∷ (1, 13, 2, 0) ∷ (1, 15, 2, 0) ∷ []) 7 17 ∷
    on ImapClient (text "a APPEND " ++ (0x80 ∷ text "{4}" ++ (0xc2 ∷ 0xa0 ∷ text "\n:\n\r\n")))
    ((7, 0, 15, 0) ∷ (1, 16, 2, 0) ∷ (1, 18, 2, 0) ∷ []) 7 20 ∷
    -- a next line alone is no tag; a letter above 127 is one
    on ImapClient (0xc2 ∷ 0x85 ∷ text " APPEND\n:\n")
    ((7, 0, 9, 0) ∷ (7, 10, 1, 0) ∷ []) 1 12 ∷
    on ImapClient (0xc3 ∷ 0xa9 ∷ text " APPEND\n:\n")
    ((7, 0, 9, 0) ∷ (1, 10, 2, 0) ∷ []) 1 12 ∷
    []

abbrev further : List Case
further = envelopes ++ mails ++ encodings ++ multiparts ++ rests ++ wides

-- every case's answer is the wanted one
abbrev Holds : List Case → Type 0
Holds cs = map (λ c. c.answers) cs ≡ map (λ c. c.wanted) cs

both : Holds small × Holds further
unfolding answer settle result_of place_of react reacts need wants run go turn fetch parted reach past first first_place holds stands found contains
    delimits may_stand starts_with same ends_with raised clean drop_end upper_of is_letter is_upper is_white is_blank is_pop_white is_digit store pour finish
    lead last last_place through worth worth_behind transfer_encoding encoding_named behind_spaces closed quoted unquoted typed named bare_parameter
    parameter content_type content_type_ext first_encoding by_type by_ext by_boundary scanned dash_bdry starts_with_helo is_mail_from second_line is_data up_to_end
    closingAt mail_from required rcpt_to stls_answer octets octets_follow numbered retr_answer append_follows tag is_append dark text_end trimmed braced
    is_utf8 size dark_lead dark_end is_space characters behind onto character opened sequence lawful is_tail is_scalar octets_of from_brace size_of
    append_size holds_colon after_mail literal_body rest plain_mail boundary_free begun on_head on_text on_literal on_preamble on_opened held whole content_length
    on_content outermost by_rest skip on_between last_line popped on_skipping on_resting on_hello given by_second on_second on_user on_password on_sender on_seeking
    by_recipient on_recipient on_reply on_status on_command on_offered on_closing
both = (refl, refl)

pub small_set : Holds small
small_set = both.0

pub computed : Holds further
computed = both.1
