-- A boundary is a part of a line, so that it holds an LF only as its last byte. What a session comes to keeps it so; then bytes added behind change no piece.
-- Assumes nothing.
use mathlib.Core.Path.{◌≡◌}
use mathlib.Core.Bool.{Bool, true, false, cond, ◌&&◌}
use mathlib.Core.List.{List, [], ◌∷◌, ◌++◌}
use Rattle.std.specs.Prelude.{Option, None, Some}
use Prim.Native.Nat.{ℕ, zero, suc, ◌+◌, ◌-◌}
use native.Mathlib.Omega.{arith}
use lib.Dec.{eqb, ltb, leb}
use lib.ListN.{length}
use Rattle.events.specs.declared.Encoding.{Encoding}
use Rattle.fields.specs.Common.{Known, unknown, scanned, by_boundary, by_ext, by_type, content_type, content_type_ext, first_encoding}
use Rattle.fields.specs.Imap.{is_append, holds_colon}
use Rattle.fields.specs.Pop3.{stls_answer, retr_answer}
use Rattle.fields.specs.Smtp.{starts_with_helo, is_mail_from, second_line, is_data, rcpt_to}
use Rattle.reading.specs.declared.Span.{Span}
use Rattle.fields.specs.declared.common.ContentType.{ContentType}
use Rattle.fields.specs.declared.common.ContentType.TheVariants.{Other, Plain, Bounded}
use Rattle.fields.specs.declared.smtp.Second.{Second}
use Rattle.fields.specs.declared.smtp.Second.TheVariants as is
use Rattle.reading.proofs.Pieces.{got_holds}
use Rattle.reading.specs.Bytes.{starts_with, same}
use Rattle.reading.specs.Reading.{crlf, clean, dash, bytes, got, fetch}
use Rattle.reading.specs.Text.{text}
use Rattle.rules.specs.Imap.{on_command, on_offered, on_closing}
use Rattle.rules.specs.Machine.{Reaction}
use Rattle.rules.specs.Mail.{dot_line, hyphens, levels, after_mail, rest, literal_body, plain_mail, boundary_free, begun, on_head, on_text, on_literal, on_preamble, on_opened, on_content, outermost, by_rest, skip, on_between, last_line, popped, on_skipping, on_resting}
use Rattle.rules.specs.Phases.{Phase, State, reads, ends, need, wants}
use Rattle.rules.specs.Phases as phase
use Rattle.rules.specs.Pop3.{on_status}
use Rattle.rules.specs.Sessions.{reacts, react}
use Rattle.rules.specs.Strict.{is_bare, strictly, react_with}
use Rattle.rules.specs.Smtp.{on_hello, on_second, by_second, on_user, on_password, on_sender, on_seeking, on_recipient, by_recipient, on_reply}
use Rattle.rules.specs.declared.Mail.{Mail}
use Rattle.rules.specs.declared.Mail.TheVariants.{Smtp, Pop3, Imap}
use Rattle.rules.specs.declared.Settings.{Settings}
use Rattle.windows.proofs.Delimiters.{LfLast, part_last, line_last, dash_last, word_marks, word_told}
use Rattle.windows.proofs.Marks.{piece_holds}
use Rattle.windows.specs.Pieces.{word, is_mark}
use Rattle.windows.specs.Stands.{Stand, fresh, in_preamble, in_content, in_literal, longest, copied, clipped, opens, enters, enter, takes, does}

-- ---- the boundaries that a stand holds
unfoldable pub AllLast : List (List ℕ) → Type 0
AllLast [] = Unit {0}
AllLast (b ∷ os) = LfLast b × AllLast os

unfoldable pub MaybeLast : Option (List ℕ) → Type 0
MaybeLast None = Unit {0}
MaybeLast (Some b) = LfLast b

unfoldable pub FirmPhase : Phase → Type 0
FirmPhase phase.hello = Unit {0}
FirmPhase phase.second = Unit {0}
FirmPhase phase.user = Unit {0}
FirmPhase phase.password = Unit {0}
FirmPhase phase.sender = Unit {0}
FirmPhase phase.seeking = Unit {0}
FirmPhase phase.recipient = Unit {0}
FirmPhase phase.reply = Unit {0}
FirmPhase phase.status = Unit {0}
FirmPhase phase.command = Unit {0}
FirmPhase (phase.offered size) = Unit {0}
FirmPhase phase.closing = Unit {0}
FirmPhase (phase.head m k os) = MaybeLast k.boundary × AllLast os
FirmPhase (phase.text m e) = Unit {0}
FirmPhase (phase.literal e n) = Unit {0}
FirmPhase (phase.preamble m b os) = AllLast (b ∷ os)
FirmPhase (phase.opened m b os) = AllLast (b ∷ os)
FirmPhase (phase.content m e b os) = AllLast (b ∷ os)
FirmPhase (phase.between m b os) = AllLast (b ∷ os)
FirmPhase (phase.skipping m b os) = AllLast (b ∷ os)
FirmPhase (phase.resting m b os n) = AllLast (b ∷ os)

unfoldable pub FirmState : State → Type 0
FirmState (reads ph) = FirmPhase ph
FirmState (ends r p) = Unit {0}

unfoldable pub Firm : Stand → Type 0
Firm (fresh st) = FirmState st
Firm (in_preamble m b os from here) = AllLast (b ∷ os)
Firm (in_content m e b os from here) = AllLast (b ∷ os)
Firm (in_literal e from left) = Unit {0}

-- what is so either way
pub either : {A : Type 0} (P : A → Type 0) (b : Bool) {x y : A} → P x → P y → P (cond b x y)
either P true h g = h
either P false h g = g

abbrev Leads : Reaction State → Type 0
Leads re = FirmState re.next

-- ---- where a mail or a level of it is over
after_firm : (m : Mail) (to : ℕ) → FirmState (after_mail m to)
unfolding after_mail FirmState FirmPhase
after_firm Smtp to = tt
after_firm Pop3 to = tt
after_firm (Imap size start) to = tt

popped_firm : (m : Mail) (os : List (List ℕ)) (to : ℕ) → AllLast os → FirmState (popped m os to)
unfolding popped FirmState FirmPhase MaybeLast
popped_firm m [] to h = after_firm m to
popped_firm m (b ∷ os) to h = (tt, h)

skip_firm : (m : Mail) (b : List ℕ) (os : List (List ℕ)) (n : ℕ) → AllLast (b ∷ os) → FirmState (by_rest m b os n)
unfolding by_rest FirmState FirmPhase
skip_firm m b os zero h = h
skip_firm m b os (suc n) h = either FirmState (ltb (suc n) (length (outermost b os))) h h

-- ---- behind a header's blank line
literal_firm : (e : Encoding) (to n : ℕ) → Leads (literal_body e to n)
unfolding literal_body FirmState FirmPhase
literal_firm e to zero = tt
literal_firm e to (suc n) = tt

mail_firm : (m : Mail) (e : Encoding) (to : ℕ) → Leads (plain_mail m e to)
unfolding plain_mail FirmState FirmPhase
mail_firm Smtp e to = tt
mail_firm Pop3 e to = tt
mail_firm (Imap size start) e to = either Leads (ltb size (to - start)) tt (literal_firm e to (rest (Imap size start) to))

plain_firm : (m : Mail) (e : Encoding) (os : List (List ℕ)) (to : ℕ) → AllLast os → Leads (boundary_free m e os to)
unfolding boundary_free FirmState FirmPhase
plain_firm m e [] to h = mail_firm m e to
plain_firm m e (b ∷ os) to h = h

begun_firm : (m : Mail) (e : Encoding) (o : Option (List ℕ)) (os : List (List ℕ)) (to : ℕ) → MaybeLast o → AllLast os → Leads (begun m e o os to)
unfolding begun FirmState FirmPhase MaybeLast AllLast
begun_firm m e None os to g h = plain_firm m e os to h
begun_firm m e (Some b) os to g h = either Leads (leb levels (length os)) tt (g, h)

-- ---- what a line supplies is a part of it
type_firm : (e : Encoding) (seen : Bool) (l : List ℕ) (c : ContentType) → LfLast l → MaybeLast (by_type e seen l c).boundary
unfolding by_type MaybeLast
type_firm e seen l Other h = tt
type_firm e seen l Plain h = tt
type_firm e seen l (Bounded b) h = part_last l b.at b.len h

ext_firm : (e : Encoding) (seen : Bool) (l : List ℕ) (c : Option Span) → LfLast l → MaybeLast (by_ext e seen l c).boundary
unfolding by_ext MaybeLast
ext_firm e seen l (Some b) h = part_last l b.at b.len h
ext_firm e seen l None h = type_firm e seen l (content_type l) h

boundary_firm : (e : Encoding) (seen : Bool) (o : Option (List ℕ)) (l : List ℕ) → MaybeLast o → LfLast l → MaybeLast (by_boundary e seen o l).boundary
unfolding by_boundary MaybeLast
boundary_firm e seen (Some b) l g h = g
boundary_firm e true None l g h = ext_firm e true l (content_type_ext l) h
boundary_firm e false None l g h = type_firm e false l (content_type l) h

head_firm : (m : Mail) (k : Known) (os : List (List ℕ)) (at : ℕ) (l : List ℕ) → MaybeLast k.boundary → AllLast os → LfLast l → Leads (on_head m k os at l)
unfolding on_head scanned FirmState FirmPhase
head_firm m k os at l g h i =
    either Leads (same crlf l) {x = begun m k.encoding k.boundary os (at + length l)}
    (begun_firm m k.encoding k.boundary os (at + length l) g h)
    (boundary_firm (first_encoding k.encoding l) k.type_seen k.boundary l g i, h)

-- ---- every phase
second_firm : (x : Second) (at : ℕ) (l : List ℕ) → Leads (by_second x at l)
unfolding by_second FirmState FirmPhase
second_firm is.StartTls at l = tt
second_firm is.AuthLogin at l = tt
second_firm is.MailFrom at l = tt
second_firm is.Other at l = tt

recipient_firm : (at : ℕ) (a : Option Span) → Leads (by_recipient at a)
unfolding by_recipient FirmState FirmPhase
recipient_firm at (Some s) = tt
recipient_firm at None = tt

command_firm : (at : ℕ) (l : List ℕ) → Leads (on_command at l)
unfolding on_command FirmState FirmPhase
command_firm at l = either Leads (is_append (clean l)) tt tt

phase_firm : (ph : Phase) (at : ℕ) (s p r : List ℕ) → FirmPhase ph → fetch (wants ph) s ≡ got p r → Leads (reacts ph at p)
unfolding reacts wants FirmPhase FirmState AllLast MaybeLast on_hello on_second on_user on_password on_sender on_seeking on_recipient on_reply on_status on_offered on_closing
    on_text on_literal on_preamble on_opened on_content on_between on_skipping on_resting skip
phase_firm phase.hello at s p r g f = either Leads (starts_with_helo p) tt tt
phase_firm phase.second at s p r g f = second_firm (second_line (clean p)) at (clean p)
phase_firm phase.user at s p r g f = tt
phase_firm phase.password at s p r g f = tt
phase_firm phase.sender at s p r g f = tt
phase_firm phase.seeking at s p r g f = either Leads (is_mail_from (clean p)) tt tt
phase_firm phase.recipient at s p r g f = either Leads (is_data (clean p)) (tt, tt) (recipient_firm at (rcpt_to (clean p)))
phase_firm phase.reply at s p r g f = either Leads (starts_with (text "221") (clean p)) tt tt
phase_firm phase.status at s p r g f = either Leads (stls_answer (clean p)) tt (either Leads (retr_answer (clean p)) (tt, tt) tt)
phase_firm phase.command at s p r g f = command_firm at p
phase_firm (phase.offered size) at s p r g f =
    either Leads (holds_colon p) (head_firm (Imap size at) unknown [] at p tt tt (line_last s p r f)) (command_firm at p)
phase_firm phase.closing at s p r g f = either Leads (same crlf p) tt tt
phase_firm (phase.head m k os) at s p r g f = head_firm m k os at p g.0 g.1 (line_last s p r f)
phase_firm (phase.text m e) at s p r g f = either Leads (same dot_line p) (after_firm m (at + length p)) tt
phase_firm (phase.literal e n) at s p r g f = tt
phase_firm (phase.preamble m b os) at s p r g f = g
phase_firm (phase.opened m b os) at s p r g f = either Leads (same crlf p) (tt, g) tt
phase_firm (phase.content m e b os) at s p r g f = g
phase_firm (phase.between m b os) at s p r g f =
    either Leads (same hyphens p) (skip_firm m b os (rest m (at + length p)) g) (either Leads (same crlf p) (tt, g) tt)
phase_firm (phase.skipping m b os) at s p r g f =
    either FirmState (last_line m (outermost b os) p) (popped_firm m os (at + length p) g.1) (skip_firm m b os (rest m (at + length p)) g)
phase_firm (phase.resting m b os n) at s p r g f = popped_firm m os (at + length p) g.1

state_firm : (st : State) (at : ℕ) (s p r : List ℕ) → FirmState st → fetch (need st) s ≡ got p r → Leads (react st at p)
unfolding react need FirmState
state_firm (reads ph) at s p r g f = phase_firm ph at s p r g f
state_firm (ends o q) at s p r g f = tt

with_firm : (set : Settings) (st : State) (at : ℕ) (s p r : List ℕ) → FirmState st → fetch (need st) s ≡ got p r → Leads (react_with set st at p)
unfolding strictly FirmState
with_firm set st at s p r g f = either Leads (is_bare (need st) p && set.strict) tt (state_firm st at s p r g f)

-- ---- and the stands
copied_firm : (o : Option (List ℕ)) → MaybeLast o → MaybeLast (copied o)
unfolding MaybeLast copied
copied_firm None h = tt
copied_firm (Some b) h = part_last b 0 (longest + 1) h

enters_firm : (ph : Phase) (at : ℕ) → FirmPhase ph → Firm (enters ph at)
unfolding enters opens clipped Firm FirmState FirmPhase
enters_firm phase.hello at g = tt
enters_firm phase.second at g = tt
enters_firm phase.user at g = tt
enters_firm phase.password at g = tt
enters_firm phase.sender at g = tt
enters_firm phase.seeking at g = tt
enters_firm phase.recipient at g = tt
enters_firm phase.reply at g = tt
enters_firm phase.status at g = tt
enters_firm phase.command at g = tt
enters_firm (phase.offered size) at g = tt
enters_firm phase.closing at g = tt
enters_firm (phase.head m k os) at g = (copied_firm k.boundary g.0, g.1)
enters_firm (phase.text m e) at g = tt
enters_firm (phase.literal e n) at g = tt
enters_firm (phase.preamble m b os) at g = either Firm (ltb longest (length b)) tt g
enters_firm (phase.opened m b os) at g = g
enters_firm (phase.content m e b os) at g = g
enters_firm (phase.between m b os) at g = g
enters_firm (phase.skipping m b os) at g = g
enters_firm (phase.resting m b os n) at g = g

enter_firm : (st : State) (at : ℕ) → FirmState st → Firm (enter st at)
unfolding enter Firm FirmState
enter_firm (reads ph) at g = enters_firm ph at g
enter_firm (ends r p) at g = tt

abbrev Stays : Reaction Stand → Type 0
Stays re = Firm re.next

pub does_firm : (set : Settings) (f : Stand) (at : ℕ) (s p r : List ℕ) → Firm f → takes f s ≡ got p r → Firm (does set f at p).next
unfolding does takes on_preamble on_content on_literal enter enters Firm FirmState FirmPhase
does_firm set (fresh st) at s p r g e = enter_firm (react_with set st at p).next (at + length p) (with_firm set st at s p r g e)
does_firm set (in_preamble m b os from here) at s p r g e = either Stays (is_mark (word (dash b)) here p) g g
does_firm set (in_content m x b os from here) at s p r g e = either Stays (is_mark (word (dash b)) here p) g g
does_firm set (in_literal x from left) at s p r g e = either Stays (eqb left 0) tt tt

-- ---- bytes added behind change no piece
pub takes_holds : (f : Stand) (s p r t : List ℕ) → Firm f → takes f s ≡ got p r → takes f (s ++ t) ≡ got p (r ++ t)
unfolding takes Firm AllLast
takes_holds (fresh st) s p r t h g = got_holds (need st) s p r g t
takes_holds (in_preamble m b os from here) s p r t h g =
    piece_holds (word_marks (dash b) (omega arith)) (word_told (dash b) (dash_last b h.0)) here s p r t g
takes_holds (in_content m e b os from here) s p r t h g =
    piece_holds (word_marks (dash b) (omega arith)) (word_told (dash b) (dash_last b h.0)) here s p r t g
takes_holds (in_literal e from left) s p r t h g = got_holds (bytes 0) s p r g t
