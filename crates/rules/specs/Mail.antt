-- Mails: document 01, 'Mail'. `at` is where the piece begins, `to` the first byte behind it.
-- Assumes nothing.
use Rattle.std.specs.Prelude.{Bool, cond, ◌||◌, List, [], ◌∷◌, ◌++◌, ℕ, zero, suc, ◌+◌, ◌-◌, leb, ltb, length, Option, None, Some}
use Rattle.events.specs.Events.{ev, header_line, body_start, body_line, sized_body, part_body, body_stop}
use Rattle.events.specs.declared.Encoding.{Encoding}
use Rattle.events.specs.declared.Encoding.TheVariants.{Unsaid}
use Rattle.events.specs.declared.Event.{Event}
use Rattle.events.specs.declared.Outcome.TheVariants.{Done, BadDelimiter, SmallLiteral, TooDeep}
use Rattle.fields.specs.Common.{Known, unknown, scanned, dash_bdry}
use Rattle.reading.specs.Bytes.{same}
use Rattle.reading.specs.Reading.{crlf}
use Rattle.reading.specs.Text.{text}
use Rattle.rules.specs.Machine.{Reaction}
use Rattle.rules.specs.Phases.{Phase, State, reads, ends, then, stop, ahead}
use Rattle.rules.specs.Phases as phase
use Rattle.rules.specs.declared.Mail.{Mail}
use Rattle.rules.specs.declared.Mail.TheVariants.{Smtp, Pop3, Imap}

abbrev pub dot_line : List ℕ
dot_line = text ".\r\n"

abbrev pub hyphens : List ℕ
hyphens = text "--"

abbrev pub levels : ℕ
levels = 8

-- ---- where a mail is over: an SMTP client's session is done, a POP3 server goes on, CRLF follows a literal
unfoldable pub after_mail : Mail → ℕ → State
after_mail Smtp to = ends Done to
after_mail Pop3 to = reads phase.status
after_mail (Imap size start) to = reads phase.closing

-- what is left of the literal at a place: 0 once passed; other mails have none
unfoldable pub rest : Mail → ℕ → ℕ
rest Smtp to = 0
rest Pop3 to = 0
rest (Imap size start) to = size - (to - start)

-- ---- a header's lines, up to and including a line of exactly CRLF

-- a body starts, and the phase reads on
abbrev pub starts : ℕ → Phase → Reaction State
starts to ph = then (ev body_start to 0 Unsaid ∷ []) ph

-- so many bytes of a literal behind its header, 0 being no read at all
unfoldable pub literal_body : Encoding → ℕ → ℕ → Reaction State
literal_body e to zero = then (ev body_start to 0 Unsaid ∷ ev body_stop to 0 Unsaid ∷ []) phase.closing
literal_body e to (suc n) = starts to (phase.literal e n)

-- no boundary, in a mail: lines until the dot line; in IMAP, size less header bytes, and 7 where that is below 0
unfoldable pub plain_mail : Mail → Encoding → ℕ → Reaction State
plain_mail Smtp e to = starts to (phase.text Smtp e)
plain_mail Pop3 e to = starts to (phase.text Pop3 e)
plain_mail (Imap size start) e to = cond (ltb size (to - start)) (stop [] SmallLiteral to) (literal_body e to (rest (Imap size start) to))

-- no boundary: a mail, or a part of the innermost open multipart
unfoldable pub boundary_free : Mail → Encoding → List (List ℕ) → ℕ → Reaction State
boundary_free m e [] to = plain_mail m e to
boundary_free m e (b ∷ os) to = starts to (phase.content m e b os)

-- behind the blank line: with a boundary a deeper multipart, of which there are eight
unfoldable pub begun : Mail → Encoding → Option (List ℕ) → List (List ℕ) → ℕ → Reaction State
begun m e None os to = boundary_free m e os to
begun m e (Some b) os to = cond (leb levels (length os)) (stop [] TooDeep to) (then [] (phase.preamble m b os))

unfoldable pub on_head : Mail → Known → List (List ℕ) → ℕ → List ℕ → Reaction State
on_head m k os at l =
    ahead (ev header_line at (length l) Unsaid)
    (cond (same crlf l) (begun m k.encoding k.boundary os (at + length l)) (then [] (phase.head m (scanned k l) os)))

-- ---- no boundary: lines until `.` CRLF; dots are not undoubled
unfoldable pub on_text : Mail → Encoding → ℕ → List ℕ → Reaction State
on_text m e at l =
    cond (same dot_line l)
    (record { events = ev body_stop at 0 Unsaid ∷ []; next = after_mail m (at + length l) })
    (then (ev body_line at (length l) e ∷ []) (phase.text m e))

-- ---- a body of n bytes at once; empty kinds 4 and 5 give no event
unfoldable pub held : ℕ → Encoding → ℕ → ℕ → List Event
held kind e at zero = []
held kind e at (suc n) = ev kind at (suc n) e ∷ []

-- its event and its stop
unfoldable pub whole : ℕ → Encoding → ℕ → ℕ → List Event
whole kind e at n = held kind e at n ++ (ev body_stop (at + n) 0 Unsaid ∷ [])

-- in IMAP: size less header bytes, n of them
unfoldable pub on_literal : Encoding → ℕ → ℕ → Reaction State
on_literal e at n = then (whole sized_body e at n) phase.closing

-- ---- a boundary: preamble to the first delimiter, then CRLF or refusal 6
unfoldable pub on_preamble : Mail → List ℕ → List (List ℕ) → Reaction State
on_preamble m b os = then [] (phase.opened m b os)

unfoldable pub on_opened : Mail → List ℕ → List (List ℕ) → ℕ → List ℕ → Reaction State
on_opened m b os at l = cond (same crlf l) (then [] (phase.head m unknown (b ∷ os))) (stop [] BadDelimiter at)

-- ---- a part's content, to the delimiter, n bytes with it: what that takes is CRLF, two hyphens and the boundary. At the region's start there is no CRLF,
-- and no content
unfoldable pub content_length : List ℕ → ℕ → ℕ
content_length b n = n - (length b + 4)

unfoldable pub on_content : Mail → Encoding → List ℕ → List (List ℕ) → ℕ → ℕ → Reaction State
on_content m e b os at n = then (whole part_body e at (content_length b n)) (phase.between m b os)

-- ---- after any close: lines are skipped

unfoldable pub outermost : List ℕ → List (List ℕ) → List ℕ
outermost b [] = b
outermost b (c ∷ os) = outermost c os

-- in IMAP, before each such line: if the literal's rest is nonzero and below the outermost boundary's length, just the rest is skipped
unfoldable pub by_rest : Mail → List ℕ → List (List ℕ) → ℕ → State
by_rest m b os zero = reads (phase.skipping m b os)
by_rest m b os (suc n) = cond (ltb (suc n) (length (outermost b os))) (reads (phase.resting m b os n)) (reads (phase.skipping m b os))

unfoldable pub skip : Mail → List ℕ → List (List ℕ) → ℕ → State
skip m b os to = by_rest m b os (rest m to)

-- two hyphens close, CRLF goes on to the next part
unfoldable pub on_between : Mail → List ℕ → List (List ℕ) → ℕ → List ℕ → Reaction State
on_between m b os at l =
    cond (same hyphens l) (record { events = []; next = skip m b os (at + length l) })
    (cond (same crlf l) (then [] (phase.head m unknown (b ∷ os)))
    (stop [] BadDelimiter at))

-- up to a line that opens with two hyphens and the outermost boundary and ends in CRLF, or, in SMTP and POP3, the dot line
unfoldable pub last_line : Mail → List ℕ → List ℕ → Bool
last_line Smtp o l = dash_bdry o l || same dot_line l
last_line Pop3 o l = dash_bdry o l || same dot_line l
last_line (Imap size start) o l = dash_bdry o l

-- the level is left: the outer one reads a header next, whatever the skipped line was
unfoldable pub popped : Mail → List (List ℕ) → ℕ → State
popped m [] to = after_mail m to
popped m (b ∷ os) to = reads (phase.head m unknown (b ∷ os))

unfoldable pub on_skipping : Mail → List ℕ → List (List ℕ) → ℕ → List ℕ → Reaction State
on_skipping m b os at l =
    record { events = []; next = cond (last_line m (outermost b os) l) (popped m os (at + length l)) (skip m b os (at + length l)) }

unfoldable pub on_resting : Mail → List (List ℕ) → ℕ → List ℕ → Reaction State
on_resting m os at l = record { events = []; next = popped m os (at + length l) }
