-- Where document 01 is done, it is done behind the piece that it read last; taken in pieces too.
-- Assumes nothing.
use mathlib.Core.Path.{◌≡◌, refl}
use mathlib.Core.Bool.{◌&&◌}
use mathlib.Core.List.{List, [], ◌∷◌}
use Rattle.std.specs.Prelude.{Option, None, Some}
use Prim.Native.Nat.{ℕ, zero, suc, ◌+◌, ◌-◌}
use native.Mathlib.Omega.{arith}
use lib.Dec.{eqb, ltb, leb}
use lib.ListN.{length}
use Rattle.events.specs.Events.{result_number}
use Rattle.events.specs.declared.Encoding.{Encoding}
use Rattle.fields.specs.Common.{Known, unknown}
use Rattle.fields.specs.Imap.{is_append, holds_colon}
use Rattle.fields.specs.Pop3.{stls_answer, retr_answer}
use Rattle.fields.specs.Smtp.{starts_with_helo, is_mail_from, second_line, is_data, rcpt_to}
use Rattle.reading.specs.declared.Span.{Span}
use Rattle.fields.specs.declared.smtp.Second.{Second}
use Rattle.fields.specs.declared.smtp.Second.TheVariants as is
use Rattle.reading.specs.Bytes.{starts_with, same}
use Rattle.reading.specs.Reading.{crlf, clean, dash, got, reach, parted, fetch}
use Rattle.reading.specs.Text.{text}
use Rattle.rules.specs.Imap.{on_command, on_offered, on_closing}
use Rattle.rules.specs.Machine.{Reaction}
use Rattle.rules.specs.Mail.{dot_line, hyphens, levels, after_mail, rest, literal_body, plain_mail, boundary_free, begun, on_head, on_text, on_literal, on_preamble, on_opened, on_content, outermost, by_rest, skip, on_between, last_line, popped, on_skipping, on_resting}
use Rattle.rules.specs.Phases.{Phase, State, reads, ends, need}
use Rattle.rules.specs.Phases as phase
use Rattle.rules.specs.Pop3.{on_status}
use Rattle.rules.specs.Sessions.{reacts, react}
use Rattle.rules.specs.Strict.{is_bare, strictly, react_with}
use Rattle.rules.specs.Smtp.{on_hello, on_second, by_second, on_user, on_password, on_sender, on_seeking, on_recipient, by_recipient, on_reply}
use Rattle.rules.specs.declared.Mail.{Mail}
use Rattle.rules.specs.declared.Mail.TheVariants.{Smtp, Pop3, Imap}
use Rattle.rules.specs.declared.Settings.{Settings}
use Rattle.windows.proofs.Courses.{taking}
use Rattle.windows.proofs.Firm.{either}
use Rattle.windows.proofs.Marks.{got_none}
use Rattle.windows.proofs.Runs as runs
use Rattle.windows.specs.Pieces.{word, is_mark}
use Rattle.windows.specs.Stands.{Stand, fresh, in_preamble, in_content, in_literal, longest, opens, enters, enter, takes, does, pieces}

-- ---- a state that is done is so at `to`: a refusal is not
unfoldable pub DoneAt : ℕ → State → Type 0
DoneAt to (reads ph) = Unit {0}
DoneAt to (ends o p) = result_number o ≡ 0 → p ≡ to

module _ (to : ℕ) where
  abbrev Leads : Reaction State → Type 0
  Leads re = DoneAt to re.next

  -- ---- where a mail or a level of it is over
  after_done : (m : Mail) → DoneAt to (after_mail m to)
  unfolding after_mail DoneAt
  after_done Smtp = λ z. refl
  after_done Pop3 = tt
  after_done (Imap size start) = tt

  popped_done : (m : Mail) (os : List (List ℕ)) → DoneAt to (popped m os to)
  unfolding popped DoneAt
  popped_done m [] = after_done m
  popped_done m (b ∷ os) = tt

  skip_done : (m : Mail) (b : List ℕ) (os : List (List ℕ)) (n : ℕ) → DoneAt to (by_rest m b os n)
  unfolding by_rest DoneAt
  skip_done m b os zero = tt
  skip_done m b os (suc n) = either (DoneAt to) (ltb (suc n) (length (outermost b os))) tt tt

  -- ---- behind a header's blank line
  literal_done : (e : Encoding) (n : ℕ) → Leads (literal_body e to n)
  unfolding literal_body DoneAt
  literal_done e zero = tt
  literal_done e (suc n) = tt

  mail_done : (m : Mail) (e : Encoding) → Leads (plain_mail m e to)
  unfolding plain_mail DoneAt
  mail_done Smtp e = tt
  mail_done Pop3 e = tt
  mail_done (Imap size start) e = either Leads (ltb size (to - start)) (λ z. absurd (omega arith)) (literal_done e (rest (Imap size start) to))

  plain_done : (m : Mail) (e : Encoding) (os : List (List ℕ)) → Leads (boundary_free m e os to)
  unfolding boundary_free DoneAt
  plain_done m e [] = mail_done m e
  plain_done m e (b ∷ os) = tt

  begun_done : (m : Mail) (e : Encoding) (o : Option (List ℕ)) (os : List (List ℕ)) → Leads (begun m e o os to)
  unfolding begun DoneAt
  begun_done m e None os = plain_done m e os
  begun_done m e (Some b) os = either Leads (leb levels (length os)) (λ z. absurd (omega arith)) tt

  -- ---- lines that end nothing
  second_done : (x : Second) (at : ℕ) (l : List ℕ) → Leads (by_second x at l)
  unfolding by_second DoneAt
  second_done is.StartTls at l = λ z. absurd (omega arith)
  second_done is.AuthLogin at l = tt
  second_done is.MailFrom at l = tt
  second_done is.Other at l = tt

  recipient_done : (at : ℕ) (a : Option Span) → Leads (by_recipient at a)
  unfolding by_recipient DoneAt
  recipient_done at (Some s) = tt
  recipient_done at None = λ z. absurd (omega arith)

  command_done : (at : ℕ) (l : List ℕ) → Leads (on_command at l)
  unfolding on_command DoneAt
  command_done at l = either Leads (is_append (clean l)) tt tt

head_done : (m : Mail) (k : Known) (os : List (List ℕ)) (at : ℕ) (l : List ℕ) → Leads (at + length l) (on_head m k os at l)
unfolding on_head DoneAt
head_done m k os at l = either (Leads (at + length l)) (same crlf l) (begun_done (at + length l) m k.encoding k.boundary os) tt

-- ---- every phase
phase_done : (ph : Phase) (at : ℕ) (p : List ℕ) → DoneAt (at + length p) (reacts ph at p).next
unfolding reacts DoneAt on_hello on_second on_user on_password on_sender on_seeking on_recipient on_reply on_status on_offered on_closing
    on_text on_literal on_preamble on_opened on_content on_between on_skipping on_resting skip
phase_done phase.hello at p = either (Leads (at + length p)) (starts_with_helo p) tt (λ z. absurd (omega arith))
phase_done phase.second at p = second_done (at + length p) (second_line (clean p)) at (clean p)
phase_done phase.user at p = tt
phase_done phase.password at p = tt
phase_done phase.sender at p = tt
phase_done phase.seeking at p = either (Leads (at + length p)) (is_mail_from (clean p)) tt tt
phase_done phase.recipient at p = either (Leads (at + length p)) (is_data (clean p)) tt (recipient_done (at + length p) at (rcpt_to (clean p)))
phase_done phase.reply at p = either (Leads (at + length p)) (starts_with (text "221") (clean p)) (λ z. refl) tt
phase_done phase.status at p =
    either (Leads (at + length p)) (stls_answer (clean p)) (λ z. refl) (either (Leads (at + length p)) (retr_answer (clean p)) tt tt)
phase_done phase.command at p = command_done (at + length p) at p
phase_done (phase.offered size) at p = either (Leads (at + length p)) (holds_colon p) (head_done (Imap size at) unknown [] at p) (command_done (at + length p) at p)
phase_done phase.closing at p = either (Leads (at + length p)) (same crlf p) tt (λ z. absurd (omega arith))
phase_done (phase.head m k os) at p = head_done m k os at p
phase_done (phase.text m e) at p = either (Leads (at + length p)) (same dot_line p) (after_done (at + length p) m) tt
phase_done (phase.literal e n) at p = tt
phase_done (phase.preamble m b os) at p = tt
phase_done (phase.opened m b os) at p = either (Leads (at + length p)) (same crlf p) tt (λ z. absurd (omega arith))
phase_done (phase.content m e b os) at p = tt
phase_done (phase.between m b os) at p =
    either (Leads (at + length p)) (same hyphens p) (skip_done (at + length p) m b os (rest m (at + length p)))
    (either (Leads (at + length p)) (same crlf p) tt (λ z. absurd (omega arith)))
phase_done (phase.skipping m b os) at p =
    either (DoneAt (at + length p)) (last_line m (outermost b os) p) (popped_done (at + length p) m os) (skip_done (at + length p) m b os (rest m (at + length p)))
phase_done (phase.resting m b os n) at p = popped_done (at + length p) m os

-- ---- and the stands
unfoldable pub StandDone : Stand → ℕ → Type 0
StandDone (fresh st) to = DoneAt to st
StandDone (in_preamble m b os from here) to = Unit {0}
StandDone (in_content m e b os from here) to = Unit {0}
StandDone (in_literal e from left) to = Unit {0}

enters_done : (ph : Phase) (to : ℕ) → StandDone (enters ph to) to
unfolding enters opens StandDone DoneAt
enters_done phase.hello to = tt
enters_done phase.second to = tt
enters_done phase.user to = tt
enters_done phase.password to = tt
enters_done phase.sender to = tt
enters_done phase.seeking to = tt
enters_done phase.recipient to = tt
enters_done phase.reply to = tt
enters_done phase.status to = tt
enters_done phase.command to = tt
enters_done (phase.offered size) to = tt
enters_done phase.closing to = tt
enters_done (phase.head m k os) to = tt
enters_done (phase.text m e) to = tt
enters_done (phase.literal e n) to = tt
enters_done (phase.preamble m b os) to = either (λ (f : Stand). StandDone f to) (ltb longest (length b)) (λ z. absurd (omega arith)) tt
enters_done (phase.opened m b os) to = tt
enters_done (phase.content m e b os) to = tt
enters_done (phase.between m b os) to = tt
enters_done (phase.skipping m b os) to = tt
enters_done (phase.resting m b os n) to = tt

enter_done : (st : State) (to : ℕ) → DoneAt to st → StandDone (enter st to) to
unfolding enter StandDone
enter_done (reads ph) to h = enters_done ph to
enter_done (ends o p) to h = h

-- a state that has ended reads nothing
react_done : (st : State) (at : ℕ) (s p r : List ℕ) → fetch (need st) s ≡ got p r → DoneAt (at + length p) (react st at p).next
unfolding react need fetch reach parted
react_done (reads ph) at s p r e = phase_done ph at p
react_done (ends o q) at s p r e = absurd (got_none e)

module _ (set : Settings) where
  with_done : (st : State) (at : ℕ) (s p r : List ℕ) → fetch (need st) s ≡ got p r → DoneAt (at + length p) (react_with set st at p).next
  unfolding strictly DoneAt
  with_done st at s p r e = either (Leads (at + length p)) (is_bare (need st) p && set.strict) (λ z. absurd (omega arith)) (react_done st at s p r e)

  does_done : (f : Stand) (at : ℕ) (s p r : List ℕ) → takes f s ≡ got p r → StandDone f at → StandDone (does set f at p).next (at + length p)
  unfolding takes does on_preamble on_content on_literal enter enters StandDone DoneAt
  does_done (fresh st) at s p r e h = enter_done (react_with set st at p).next (at + length p) (with_done st at s p r e)
  does_done (in_preamble m b os from here) at s p r e h =
      either (λ (re : Reaction Stand). StandDone re.next (at + length p)) (is_mark (word (dash b)) here p) tt tt
  does_done (in_content m x b os from here) at s p r e h =
      either (λ (re : Reaction Stand). StandDone re.next (at + length p)) (is_mark (word (dash b)) here p) tt tt
  does_done (in_literal x from left) at s p r e h = either (λ (re : Reaction Stand). StandDone re.next (at + length p)) (eqb left 0) tt tt

  -- a run that is done is so where it stopped
  pub run_done : (f : Stand) (at : ℕ) (s : List ℕ) → StandDone f at → StandDone (pieces set f at s).state (pieces set f at s).at
  run_done = runs.run_keeps Stand takes (does set) taking StandDone does_done
