-- The definition, computed: telling sessions by windows, with the answers that the oracle gives to each of them.
-- Assumes nothing.
use mathlib.Core.Path.{◌≡◌, refl}
use mathlib.Core.List.{List, [], ◌∷◌, ◌++◌}
use Rattle.classes.specs.Classes.{upper_of, is_letter, is_upper, is_white, is_blank, is_pop_white, is_digit}
use Rattle.events.specs.Events.{result_number}
use Rattle.reading.specs.Text.{text}
use Rattle.reading.specs.Bytes.{starts_with, same, ends_with, raised, first, first_place, holds, stands, found, contains}
use Rattle.reading.specs.Reading.{clean, drop_end, may_stand, delimits, past, reach, parted, fetch}
use Rattle.utf8.specs.Utf8.{octets_of, is_scalar, is_space, is_tail, lawful, sequence, opened, character, onto, behind, characters, size, is_utf8, dark_lead, dark_end}
use Rattle.fields.specs.Runs.{lead, last, last_place, through, worth_behind, worth}
use Rattle.fields.specs.Common.{encoding_named, behind_spaces, transfer_encoding, closed, quoted, unquoted, typed, named, bare_parameter, parameter, content_type, content_type_ext, first_encoding, by_type, by_ext, by_boundary, scanned, dash_bdry}
use Rattle.fields.specs.Smtp.{starts_with_helo, is_mail_from, second_line, is_data, up_to_end, closing as closingAt, mail_from, required, rcpt_to}
use Rattle.fields.specs.Pop3.{stls_answer, octets, octets_follow, numbered, retr_answer}
use Rattle.fields.specs.Imap.{append_follows, tag, is_append, dark, text_end, trimmed, braced, from_brace, size_of, append_size, holds_colon}
use Rattle.rules.specs.Machine.{turn, go, run}
use Rattle.rules.specs.Phases.{wants, need, reads}
use Rattle.rules.specs.Mail.{after_mail, literal_body, rest, plain_mail, boundary_free, begun, on_head, on_text, held, whole, on_literal, on_preamble, on_opened, content_length, on_content, outermost, by_rest, skip, on_between, last_line, popped, on_skipping, on_resting}
use Rattle.rules.specs.Smtp.{on_hello, given, by_second, on_second, on_user, on_password, on_sender, on_seeking, by_recipient, on_recipient, on_reply}
use Rattle.rules.specs.Pop3.{on_status}
use Rattle.rules.specs.Imap.{on_command, on_offered, on_closing}
use Rattle.rules.specs.declared.Entry.{Entry}
use Rattle.rules.specs.declared.Entry.TheVariants.{SmtpClient, SmtpServer, Pop3Server, ImapClient}
use mathlib.Core.Bool.{true}
use Rattle.std.specs.Prelude.{Some}
use Prim.Native.Nat.{ℕ, ◌+◌, ◌*◌, ◌-◌}
use lib.ListN.{length, replicate}
use Rattle.events.specs.Table.{store, pour}
use Rattle.events.specs.declared.Encoding.TheVariants.{Unsaid}
use Rattle.rules.specs.Phases as phase
use Rattle.rules.specs.Sessions.{reacts, react, result_of, place_of, start_of}
use Rattle.rules.specs.Strict.{lax, is_bare, strictly}
use Rattle.rules.specs.declared.Settings.{Settings}
use Rattle.rules.specs.declared.Mail.TheVariants.{Smtp}
use Rattle.windows.specs.Pieces.{word, or_else, standing, piece_of, is_at, is_mark}
use Rattle.windows.specs.Stands.{fresh, copied, clipped, opens, enters, enter, takes, does, stand_result, stand_place}
use Rattle.windows.specs.Windows.{Record, said, over, keeps, refused, landed, lands, window, taken, Tap, tapped, shows}

-- what a window took, result, place and count; and an event as it is listed
abbrev Row : Type 0
Row = ℕ × ℕ × ℕ × ℕ

abbrev flat : List Row → List ℕ
flat [] = []
flat (r ∷ rs) = r.0 ∷ r.1 ∷ r.2 ∷ r.3 ∷ flat rs

abbrev row : ℕ → Record → List ℕ → List ℕ
row n r t = n ∷ result_number (said r t).result ∷ (said r t).place ∷ (said r t).count ∷ []

-- the rows of windows one after another, and the table then
unfoldable pub trace : Tap → List (List ℕ) → List ℕ
trace x [] = x.table
trace x (w ∷ ws) = row ((shows x w).session.at - x.session.at) (shows x w).session (shows x w).table ++ trace (shows x w) ws

record Case : Type 0 where
  answers : List ℕ
  wanted : List ℕ

-- a table of so many slots and a number over, each number 99; the windows; the rows wanted, and the events
abbrev with_settings : Settings → ℕ → Entry → List (List ℕ) → List Row → List Row → Case
with_settings set n e ws rs es =
    record {
      answers = trace (tapped set (start_of e) (replicate (4 * n + 1) 99)) ws;
      wanted = flat rs ++ (flat es ++ replicate (4 * n + 1 - 4 * length es) 99);
    }

abbrev on : ℕ → Entry → List (List ℕ) → List Row → List Row → Case
on = with_settings lax

abbrev strict : ℕ → Entry → List (List ℕ) → List Row → List Row → Case
strict = with_settings (record { strict = true })

-- a boundary of so many bytes; and a mail of POP3 up to its boundary
abbrev bs : ℕ → List ℕ
bs n = replicate n 98

abbrev retrieved : List ℕ → List ℕ
retrieved s = text "+OK 1 octets\r\nContent-Type: m; boundary=" ++ s

abbrev sessions : List Case
sessions =
    -- a literal, of which all bytes shown are taken; the place stays where it began; its CRLF is waited for
    on 12 ImapClient (text "a APPEND x {11}\r" ∷ text "\nT: u\r\n\r\nh" ∷ text "" ∷ text "e" ∷ text "y\r" ∷ text "\n" ∷ text "b\r\n" ∷ [])
    ((0, 1, 0, 0) ∷ (26, 1, 25, 4) ∷ (0, 1, 25, 4) ∷ (1, 1, 25, 4) ∷ (1, 1, 28, 6) ∷ (2, 1, 30, 6) ∷ (3, 1, 33, 7) ∷ [])
    ((7, 0, 15, 0) ∷ (1, 17, 6, 0) ∷ (1, 23, 2, 0) ∷ (2, 25, 0, 0) ∷ (4, 25, 3, 0) ∷ (6, 28, 0, 0) ∷ (7, 30, 1, 0) ∷ []) ∷
    -- a preamble and a content by lines: none is taken before it is finished, and no delimiter stands behind a bare LF
    on 12 Pop3Server (text "+OK 9 octets\r\nContent-Type: m; boundary=q\r\n\r\np" ∷ text "re\r\n-" ∷ text "-q\r" ∷ text "\n\r\na\r" ∷ text "\nb\n--q\r\nc"
    ∷ text "\r\n--" ∷ text "q" ∷ text "--\r\n." ∷ text "\r\n" ∷ [])
    ((45, 1, 45, 3) ∷ (5, 1, 45, 3) ∷ (3, 1, 53, 3) ∷ (4, 1, 57, 5) ∷ (10, 1, 57, 5) ∷ (3, 1, 57, 5) ∷ (3, 1, 73, 7) ∷ (4, 1, 77, 7) ∷ (3, 1, 80, 7) ∷ [])
    ((8, 0, 12, 0) ∷ (1, 14, 29, 0) ∷ (1, 43, 2, 0) ∷ (1, 55, 2, 0) ∷ (2, 57, 0, 0) ∷ (5, 57, 11, 0) ∷ (6, 68, 0, 0) ∷ []) ∷
    -- a delimiter is read though its line is not finished; the refusal takes nothing of its window
    on 8 Pop3Server (text "+OK 9 octets\r\nContent-Type: m; boundary=q\r\n\r\n" ∷ text "--q\r\n\r\nab\r\n--qq\r\n" ∷ [])
    ((45, 1, 45, 3) ∷ (0, 6, 59, 7) ∷ [])
    ((8, 0, 12, 0) ∷ (1, 14, 29, 0) ∷ (1, 43, 2, 0) ∷ (1, 50, 2, 0) ∷ (2, 52, 0, 0) ∷ (5, 52, 2, 0) ∷ (6, 54, 0, 0) ∷ []) ∷
    -- a boundary of 71 bytes: 12 behind the blank line, and again however much is shown
    on 12 Pop3Server (retrieved (bs 71 ++ text "\r\n\r") ∷ text "\n--x" ∷ text "y" ∷ [])
    ((113, 1, 113, 2) ∷ (0, 12, 115, 3) ∷ (0, 12, 115, 3) ∷ [])
    ((8, 0, 12, 0) ∷ (1, 14, 99, 0) ∷ (1, 113, 2, 0) ∷ []) ∷
    -- one of 70 bytes is none too long
    on 12 Pop3Server (retrieved (bs 70 ++ (text "\r\n\r\n--" ++ (bs 70 ++ text "\r\n"))) ∷ [])
    ((188, 1, 188, 3) ∷ [])
    ((8, 0, 12, 0) ∷ (1, 14, 98, 0) ∷ (1, 112, 2, 0) ∷ []) ∷
    -- a refusal takes nothing, of lines before it in the window neither
    on 12 SmtpClient (text "EHLO a\r\nSTART" ∷ text "TLS\r\nx" ∷ [])
    ((8, 1, 8, 0) ∷ (0, 4, 8, 0) ∷ [])
    [] ∷
    -- done takes up to its place; then nothing is taken, and the answer stays
    on 12 SmtpServer (text "220 a\r\n221 b" ∷ text "ye\r\nrest" ∷ text "" ∷ text "more" ∷ [])
    ((7, 1, 7, 1) ∷ (9, 0, 16, 2) ∷ (0, 0, 16, 2) ∷ (0, 0, 16, 2) ∷ [])
    ((8, 0, 5, 0) ∷ (8, 7, 7, 0) ∷ []) ∷
    -- a line that is only peeked at is taken when it is read as a command
    on 12 ImapClient (text "a APPEND {9}\r\nb" ∷ text "c\r\nd: e\r\n" ∷ [])
    ((14, 1, 14, 1) ∷ (10, 1, 24, 3) ∷ [])
    ((7, 0, 12, 0) ∷ (7, 14, 2, 0) ∷ (7, 18, 4, 0) ∷ []) ∷
    -- an encoding that is not recognised is known in later windows; a valid one in a later window wins
    on 8 Pop3Server (text "+OK 1 octets\r\nContent-Transfer-Encoding: x-uu" ∷ text "encode\r\nTo: d\r" ∷ text "\n\r\nx\r\n" ∷ text ".\r\n" ∷ [])
    ((14, 1, 14, 1) ∷ (39, 1, 53, 2) ∷ (12, 1, 65, 6) ∷ (3, 1, 68, 7) ∷ [])
    ((8, 0, 12, 0) ∷ (1, 14, 39, 0) ∷ (1, 53, 7, 0) ∷ (1, 60, 2, 0) ∷ (2, 62, 0, 0) ∷ (3, 62, 3, 6) ∷ (6, 65, 0, 0) ∷ []) ∷
    on 8 Pop3Server (text "+OK 1 octets\r\nContent-Transfer-Encoding:\r\n" ∷ text "Content-Transfer-Encoding: base64\r\n\r\nx\r\n" ∷ [])
    ((42, 1, 42, 2) ∷ (40, 1, 82, 6) ∷ [])
    ((8, 0, 12, 0) ∷ (1, 14, 28, 0) ∷ (1, 42, 35, 0) ∷ (1, 77, 2, 0) ∷ (2, 79, 0, 0) ∷ (3, 79, 3, 5) ∷ []) ∷
    -- a window that ends inside a no-break space: the line is read whole, and the space counts
    on 8 ImapClient ((text "a APPEND{4}" ++ (0xc2 ∷ [])) ∷ (0xa0 ∷ text "\n:\n\r") ∷ text "\n\r\n" ∷ [])
    ((0, 1, 0, 0) ∷ (16, 1, 16, 2) ∷ (4, 1, 20, 5) ∷ [])
    ((7, 0, 13, 0) ∷ (1, 14, 2, 0) ∷ (1, 16, 2, 0) ∷ (2, 18, 0, 0) ∷ (6, 18, 0, 0) ∷ []) ∷
    -- the table is full: 10, and nothing is taken
    on 1 SmtpServer (text "220 a\r\n220 b\r\n" ∷ text "220 c\r\n" ∷ [])
    ((0, 10, 7, 1) ∷ (0, 10, 7, 1) ∷ [])
    ((8, 0, 5, 0) ∷ []) ∷
    []

-- ---- the strict setting: document 02, W6

-- a mail whose body has a bare LF before its dot line
abbrev smuggled : List (List ℕ)
smuggled = text "HELO\r\nMAIL FROM:\r\nDATA\r\n\r\na" ∷ text "\n.\r\n" ∷ []

abbrev bare_lines : List Case
bare_lines =
    -- off, the mail ends there; on, the bare line is refused, and nothing of its window is taken
    on 4 SmtpClient smuggled
    ((26, 1, 26, 2) ∷ (5, 0, 31, 4) ∷ [])
    ((1, 24, 2, 0) ∷ (2, 26, 0, 0) ∷ (3, 26, 2, 0) ∷ (6, 28, 0, 0) ∷ []) ∷
    strict 4 SmtpClient smuggled
    ((26, 1, 26, 2) ∷ (0, 11, 26, 2) ∷ [])
    ((1, 24, 2, 0) ∷ (2, 26, 0, 0) ∷ []) ∷
    -- ahead of 3
    strict 0 SmtpClient (text "x\n" ∷ []) ((0, 11, 0, 0) ∷ []) [] ∷
    -- ahead of the line's event, so of 10, and of done; a CR elsewhere in the line, or before it, does not count
    strict 0 SmtpServer (text "221\n" ∷ []) ((0, 11, 0, 0) ∷ []) [] ∷
    strict 1 SmtpServer (text "221\r \n" ∷ []) ((0, 11, 0, 0) ∷ []) [] ∷
    -- a line that is only peeked at
    strict 1 ImapClient (text "a APPEND {9}\r\n" ∷ text ":\n" ∷ [])
    ((14, 1, 14, 1) ∷ (0, 11, 14, 1) ∷ [])
    ((7, 0, 12, 0) ∷ []) ∷
    -- a sized body is no line
    strict 6 ImapClient (text "a APPEND {8}\r\nb:\r\n\r\n\n\n\r\n" ∷ [])
    ((24, 1, 24, 6) ∷ [])
    ((7, 0, 12, 0) ∷ (1, 14, 4, 0) ∷ (1, 18, 2, 0) ∷ (2, 20, 0, 0) ∷ (4, 20, 2, 0) ∷ (6, 22, 0, 0) ∷ []) ∷
    -- nor are a preamble and a content; a line behind the close is one
    strict 7 Pop3Server (retrieved (text "q\r\n\r\nx\n\r\n--q\r\n\r\ny\n\r\n--q--") ∷ text "z\n" ∷ [])
    ((65, 1, 65, 7) ∷ (0, 11, 65, 7) ∷ [])
    ((8, 0, 12, 0) ∷ (1, 14, 29, 0) ∷ (1, 43, 2, 0) ∷ (1, 54, 2, 0) ∷ (2, 56, 0, 0) ∷ (5, 56, 2, 0) ∷ (6, 58, 0, 0) ∷ []) ∷
    []

-- ---- records that would take long to come to

-- one window shown to a record, with a table of two slots
abbrev one : Record → List ℕ → Row → Case
one r w wanted =
    record {
      answers = row ((window lax r (replicate 8 99) w).next.at - r.at) (window lax r (replicate 8 99) w).next (window lax r (replicate 8 99) w).table;
      wanted = flat (wanted ∷ []);
    }

-- a reply of a session that has taken so many bytes and listed 5 events
abbrev after : ℕ → Record
after n = record { stand = fresh (reads phase.reply); at = n; log = record { count = 5 } }

-- a header inside so many levels, whose boundary has 71 bytes
abbrev deep : ℕ → Record
deep n =
    record {
      stand = fresh (reads (phase.head Smtp (record { encoding = Unsaid; type_seen = true; boundary = Some (bs 71) }) (replicate n (98 ∷ []))));
      at = 100;
      log = record { count = 0 };
    }

abbrev records : List Case
records =
    -- the limit is on the session: just so many pass, and one more is 2 before the window is read, with the events kept
    one (after 16777213) (text "220") (0, 1, 16777213, 5) ∷
    one (after 16777213) (text "220\n") (0, 2, 0, 5) ∷
    -- 12 after 9, with 9's place
    one (deep 7) (text "\r\n") (0, 12, 102, 1) ∷
    one (deep 8) (text "\r\n") (0, 9, 102, 1) ∷
    []

-- each answers what is wanted
abbrev Holds : List Case → Type 0
Holds [] = Unit {0}
Holds (c ∷ cs) = (c.answers ≡ c.wanted) × Holds cs

all_hold : Holds sessions × Holds bare_lines × Holds records
unfolding trace shows taken window strictly is_bare refused lands landed keeps over said enter enters opens copied clipped takes does stand_result stand_place word or_else standing
    piece_of is_at is_mark result_of place_of react reacts need wants run go turn fetch parted reach past first first_place holds stands found contains
    delimits may_stand starts_with same ends_with raised clean drop_end upper_of is_letter is_upper is_white is_blank is_pop_white is_digit store pour
    lead last last_place through worth worth_behind transfer_encoding encoding_named behind_spaces closed quoted unquoted typed named bare_parameter
    parameter content_type content_type_ext first_encoding by_type by_ext by_boundary scanned dash_bdry starts_with_helo is_mail_from second_line is_data up_to_end
    closingAt mail_from required rcpt_to stls_answer octets octets_follow numbered retr_answer append_follows tag is_append dark text_end trimmed braced
    is_utf8 size dark_lead dark_end is_space characters behind onto character opened sequence lawful is_tail is_scalar octets_of from_brace size_of
    append_size holds_colon after_mail literal_body rest plain_mail boundary_free begun on_head on_text on_literal on_preamble on_opened held whole content_length
    on_content outermost by_rest skip on_between last_line popped on_skipping on_resting on_hello given by_second on_second on_user on_password on_sender on_seeking
    by_recipient on_recipient on_reply on_status on_command on_offered on_closing
all_hold = (
  (refl, (refl, (refl, (refl, (refl, (refl, (refl, (refl, (refl, (refl, (refl, (refl, tt)))))))))))),
  (refl, (refl, (refl, (refl, (refl, (refl, (refl, (refl, tt)))))))),
  (refl, (refl, (refl, (refl, tt)))),
)

pub computed : Holds sessions
computed = all_hold.0

pub strict_computed : Holds bare_lines
strict_computed = all_hold.1

pub of_records : Holds records
of_records = all_hold.2
