-- Events never exceed bytes: a session lists at most as many events as it has bytes, so that as many slots suffice.
-- Assumes nothing.
use mathlib.Core.Path.{◌≡◌, refl, ap}
use mathlib.Core.Bool.{Bool, true, false, cond}
use mathlib.Core.List.{List, [], ◌∷◌}
use Rattle.std.specs.Prelude.{Option, None, Some}
use Prim.Native.Nat.{ℕ, zero, suc, ◌+◌, ◌-◌, ◌≤◌, ◌<◌}
use native.Mathlib.Omega.{arith}
use lib.Dec.{eqb, leb, ltb}
use lib.ListN.{length, length-append}
use borrow.Author.Tests.{eqb-true}
use Rattle.events.proofs.Laws.{pour_count, enough_plain}
use Rattle.events.specs.Events.{sized_body, part_body, result_number}
use Rattle.events.specs.Table.{Final, no_events, slots}
use Rattle.events.specs.declared.Encoding.{Encoding}
use Rattle.events.specs.declared.Event.{Event}
use Rattle.events.specs.declared.Outcome.{Outcome}
use Rattle.fields.specs.Common.{Known, unknown}
use Rattle.fields.proofs.Texts.{append_none}
use Rattle.fields.specs.Imap.{is_append, holds_colon}
use Rattle.fields.specs.Pop3.{stls_answer, retr_answer}
use Rattle.fields.specs.Smtp.{starts_with_helo, is_mail_from, second_line, is_data, mail_from, rcpt_to}
use Rattle.reading.specs.declared.Span.{Span}
use Rattle.fields.specs.declared.smtp.Second.{Second}
use Rattle.fields.specs.declared.smtp.Second.TheVariants as is
use Rattle.reading.proofs.Pieces.{got_splits, got_moves, got_itself, got_reach, got_length}
use Rattle.reading.proofs.Words.{both_true}
use Rattle.reading.specs.Bytes.{starts_with, same, ends_with, first, first_place, holds}
use Rattle.reading.specs.Reading.{clean, drop_end, crlf, dash, a_line, delimiter, Got, got, short, past, reach, parted, fetch}
use Rattle.reading.specs.Text.{text}
use Rattle.rules.specs.Imap.{on_command, on_offered, on_closing}
use Rattle.rules.specs.Machine.{Reaction, Ran, turn, go, run}
use Rattle.rules.specs.Mail.{dot_line, hyphens, levels, after_mail, rest, literal_body, plain_mail, boundary_free, begun, on_head, on_text, held, whole, on_literal, on_preamble, on_opened, content_length, on_content, outermost, by_rest, skip, on_between, last_line, popped, on_skipping, on_resting}
use Rattle.rules.specs.Phases
use Rattle.rules.specs.Phases.{Phase, State, reads, ends, wants, need, then, stop, ahead}
use Rattle.rules.specs.Pop3.{on_status}
use Rattle.rules.specs.Sessions.{reacts, react, fetches, session, result_of, place_of, settle, limit, answer}
use Rattle.rules.specs.Smtp.{on_hello, given, by_second, on_second, on_user, on_password, on_sender, on_seeking, by_recipient, on_recipient, on_reply}
use Rattle.rules.specs.declared.Mail.{Mail}
use Rattle.rules.specs.declared.Mail.TheVariants.{Smtp, Pop3, Imap}

-- ---- an IMAP client's mail has one event to its credit: the APPEND line lists one event and has two bytes at least
unfoldable pub mail_credit : Mail → ℕ
mail_credit Smtp = 0
mail_credit Pop3 = 0
mail_credit (Imap size start) = 1

unfoldable pub phase_credit : Phase → ℕ
phase_credit Phases.hello = 0
phase_credit Phases.second = 0
phase_credit Phases.user = 0
phase_credit Phases.password = 0
phase_credit Phases.sender = 0
phase_credit Phases.seeking = 0
phase_credit Phases.recipient = 0
phase_credit Phases.reply = 0
phase_credit Phases.status = 0
phase_credit Phases.command = 0
phase_credit (Phases.offered size) = 1
phase_credit Phases.closing = 0
phase_credit (Phases.head m k os) = mail_credit m
phase_credit (Phases.text m e) = 0
phase_credit (Phases.literal e n) = 1
phase_credit (Phases.preamble m b os) = mail_credit m
phase_credit (Phases.opened m b os) = mail_credit m
phase_credit (Phases.content m e b os) = mail_credit m
phase_credit (Phases.between m b os) = mail_credit m
phase_credit (Phases.skipping m b os) = mail_credit m
phase_credit (Phases.resting m b os n) = mail_credit m

unfoldable pub credit : State → ℕ
credit (reads ph) = phase_credit ph
credit (ends r p) = 0

-- the result is refusal 10: the table is full
unfoldable pub is_ten : Outcome → Bool
is_ten r = eqb (result_number r) 10

-- n pays for a reaction: for its events and the credit of the state that it leads to; and it ends in no refusal 10
record Pays (n : ℕ) (re : Reaction State) : Type 0 where
  paid : length re.events + credit re.next ≤ n
  fine : is_ten (result_of re.next) ≡ false

on : {n : ℕ} {es : List Event} {ph : Phase} → length es + phase_credit ph ≤ n → Pays n (then es ph)
unfolding credit result_of is_ten
on h = record { paid = h; fine = refl }

over : {n : ℕ} {r : Outcome} {p : ℕ} → is_ten r ≡ false → Pays n (stop [] r p)
unfolding credit result_of
over h = record { paid = omega arith; fine = h }

-- an event before a reaction costs one
cost : {n : ℕ} {e : Event} {re : Reaction State} → 0 < n → Pays (n - 1) re → Pays n (ahead e re)
cost h p = record { paid = omega (arith, p.paid); fine = p.fine }

more : {n m : ℕ} {re : Reaction State} → n ≤ m → Pays n re → Pays m re
more h p = record { paid = omega (arith, p.paid); fine = p.fine }

-- what is so either way; the first way may use that the test holds
either : {A : Type 0} (P : A → Type 0) (b : Bool) {x y : A} → (b ≡ true → P x) → P y → P (cond b x y)
either P true h g = h refl
either P false h g = g

-- the state after a reaction without events
abbrev Leads : ℕ → State → Type 0
Leads n st = Pays n (record { events = []; next = st })

-- ---- SMTP and POP3: a line lists one event at most
module _ {n : ℕ} (byte : 0 < n) (at : ℕ) where
  tried_pays : (a : Option Span) → Pays n (then (given at a) Phases.recipient)
  unfolding given phase_credit
  tried_pays (Some s) = on (omega arith)
  tried_pays None = on (omega arith)

  second_pays : (k : Second) (l : List ℕ) → Pays n (by_second k at l)
  unfolding by_second phase_credit is_ten
  second_pays is.StartTls l = over refl
  second_pays is.AuthLogin l = on (omega arith)
  second_pays is.MailFrom l = tried_pays (mail_from l)
  second_pays is.Other l = on (omega arith)

  recipient_pays : (a : Option Span) → Pays n (by_recipient at a)
  unfolding by_recipient phase_credit is_ten
  recipient_pays (Some s) = on (omega arith)
  recipient_pays None = over refl

  reply_pays : (l : List ℕ) → Pays n (on_reply at l)
  unfolding on_reply phase_credit is_ten
  reply_pays l = cost byte (either (Pays (n - 1)) (starts_with (text "221") (clean l)) (λ t. over refl) (on (omega arith)))

  status_pays : (l : List ℕ) → Pays n (on_status at l)
  unfolding on_status phase_credit mail_credit is_ten
  status_pays l =
      cost byte (either (Pays (n - 1)) (stls_answer (clean l)) (λ t. over refl)
      (either (Pays (n - 1)) (retr_answer (clean l)) (λ t. on (omega arith)) (on (omega arith))))

-- ---- where a mail or a level of it is over
after_pays : {n : ℕ} (m : Mail) (to : ℕ) → Leads n (after_mail m to)
unfolding after_mail phase_credit is_ten
after_pays Smtp to = over refl
after_pays Pop3 to = on (omega arith)
after_pays (Imap size start) to = on (omega arith)

popped_pays : {n : ℕ} (m : Mail) → mail_credit m ≤ n → (os : List (List ℕ)) (to : ℕ) → Leads n (popped m os to)
unfolding popped phase_credit
popped_pays m h [] to = after_pays m to
popped_pays m h (b ∷ os) to = on (omega arith)

skip_pays : {n : ℕ} (m : Mail) → mail_credit m ≤ n → (b : List ℕ) (os : List (List ℕ)) (left : ℕ) → Leads n (by_rest m b os left)
unfolding by_rest phase_credit
skip_pays m h b os zero = on (omega arith)
skip_pays {n} m h b os (suc k) = either (Leads n) (ltb (suc k) (length (outermost b os))) (λ t. on (omega arith)) (on (omega arith))

-- ---- a header's blank line: its first byte pays for its own event, its second byte and the credit for those of the body
blank_two : (l : List ℕ) → same crlf l ≡ true → length l ≡ 2
unfolding same
blank_two l h = eqb-true (length l) 2 (both_true (eqb (length l) 2) (starts_with crlf l) h).0

module _ (e : Encoding) (to : ℕ) where
  literal_starts : (k : ℕ) → Pays 2 (literal_body e to k)
  unfolding literal_body phase_credit
  literal_starts zero = on (omega arith)
  literal_starts (suc k) = on (omega arith)

  mail_starts : (m : Mail) → Pays (1 + mail_credit m) (plain_mail m e to)
  unfolding plain_mail phase_credit mail_credit is_ten
  mail_starts Smtp = on (omega arith)
  mail_starts Pop3 = on (omega arith)
  mail_starts (Imap size start) = either (Pays 2) (ltb size (to - start)) (λ t. over refl) (literal_starts (rest (Imap size start) to))

  plain_starts : (m : Mail) (os : List (List ℕ)) → Pays (1 + mail_credit m) (boundary_free m e os to)
  unfolding boundary_free phase_credit
  plain_starts m [] = mail_starts m
  plain_starts m (b ∷ os) = on (omega arith)

  begun_pays : (m : Mail) (b : Option (List ℕ)) (os : List (List ℕ)) → Pays (1 + mail_credit m) (begun m e b os to)
  unfolding begun phase_credit is_ten
  begun_pays m None os = plain_starts m os
  begun_pays m (Some b) os = either (Pays (1 + mail_credit m)) (leb levels (length os)) (λ t. over refl) (on (omega arith))

head_pays : {n : ℕ} (m : Mail) (k : Known) (os : List (List ℕ)) (at : ℕ) (l : List ℕ) → 0 < length l → length l + mail_credit m ≤ n → Pays n (on_head m k os at l)
unfolding on_head phase_credit
head_pays {n} m k os at l byte h =
    cost (omega arith) (either (Pays (n - 1)) (same crlf l)
    (λ t. more (omega (arith, blank_two l t)) (begun_pays k.encoding (at + length l) m k.boundary os))
    (on (omega arith)))

-- ---- a body at once: its event and its stop. A content's piece ends with two hyphens and a boundary
whole_two : (kind : ℕ) (e : Encoding) (at k : ℕ) → length (whole kind e at k) ≤ 2
unfolding whole held
whole_two kind e at zero = omega arith
whole_two kind e at (suc k) = omega arith

past_far : (k : ℕ) (q : Option ℕ) (e : ℕ) → past k q ≡ Some e → k ≤ e
unfolding past
past_far k (Some p) e h = let z : p + k ≡ e = cc in omega arith
past_far k None e h = absurd (let z : ◌≡◌ {A = ℕ} 0 1 = cc in omega arith)

delimiter_two : (b l : List ℕ) → fetch (delimiter b) l ≡ got l [] → 2 ≤ length l
unfolding reach
delimiter_two b l g =
    let r = got_reach (delimiter b) l l [] g in
    omega (arith, past_far (length (dash b)) _ r.0 r.1, got_length (delimiter b) l l [] g)

-- ---- IMAP: a line of one byte is an LF, and no APPEND
lone_line : (x : ℕ) (b : Bool) → eqb x 10 ≡ b → fetch a_line (x ∷ []) ≡ got (x ∷ []) [] → is_append (clean (x ∷ [])) ≡ false
unfolding fetch parted reach past first_place first holds clean drop_end ends_with same starts_with
lone_line x true e g = rw e append_none
lone_line x false e g = absurd (let s : fetch a_line (x ∷ []) ≡ short = rw e in let z : ◌≡◌ {A = ℕ} 0 1 = cc in omega arith)

append_two : (l : List ℕ) → fetch a_line l ≡ got l [] → is_append (clean l) ≡ true → 2 ≤ length l
append_two [] g h = absurd (omega (arith, got_moves a_line [] [] [] g))
append_two (x ∷ []) g h = absurd (let f = lone_line x (eqb x 10) refl g in let z : ◌≡◌ {A = ℕ} 0 1 = cc in omega arith)
append_two (x ∷ y ∷ l) g h = omega arith

command_pays : {n : ℕ} (at : ℕ) (l : List ℕ) → fetch a_line l ≡ got l [] → length l ≤ n → Pays n (on_command at l)
unfolding on_command phase_credit
command_pays {n} at l g h =
    cost (omega (arith, got_moves a_line l l [] g))
    (either (Pays (n - 1)) (is_append (clean l)) (λ t. on (omega (arith, append_two l g t))) (on (omega arith)))

-- ---- every phase
phase_pays : {n : ℕ} (ph : Phase) (at : ℕ) (p : List ℕ) → fetch (wants ph) p ≡ got p [] → 0 < length p → length p + phase_credit ph ≤ n → Pays n (reacts ph at p)
unfolding wants reacts phase_credit mail_credit is_ten on_hello on_second on_user on_password on_sender on_seeking on_recipient on_offered on_closing on_text on_literal on_preamble
    on_opened on_content on_between on_skipping on_resting skip
phase_pays {n} Phases.hello at p g byte h = either (Pays n) (starts_with_helo p) (λ t. on (omega arith)) (over refl)
phase_pays Phases.second at p g byte h = second_pays (omega arith) at (second_line (clean p)) (clean p)
phase_pays Phases.user at p g byte h = on (omega arith)
phase_pays Phases.password at p g byte h = on (omega arith)
phase_pays Phases.sender at p g byte h = tried_pays (omega arith) at (mail_from (clean p))
phase_pays {n} Phases.seeking at p g byte h = either (Pays n) (is_mail_from (clean p)) (λ t. tried_pays (omega arith) at (mail_from (clean p))) (on (omega arith))
phase_pays {n} Phases.recipient at p g byte h = either (Pays n) (is_data (clean p)) (λ t. on (omega arith)) (recipient_pays (omega arith) at (rcpt_to (clean p)))
phase_pays Phases.reply at p g byte h = reply_pays (omega arith) at p
phase_pays Phases.status at p g byte h = status_pays (omega arith) at p
phase_pays Phases.command at p g byte h = command_pays at p g (omega arith)
phase_pays {n} (Phases.offered size) at p g byte h = either (Pays n) (holds_colon p) (λ t. head_pays (Imap size at) unknown [] at p byte h) (command_pays at p g (omega arith))
phase_pays {n} Phases.closing at p g byte h = either (Pays n) (same crlf p) (λ t. on (omega arith)) (over refl)
phase_pays (Phases.head m k os) at p g byte h = head_pays m k os at p byte h
phase_pays {n} (Phases.text m e) at p g byte h = either (Pays n) (same dot_line p) (λ t. cost (omega arith) (after_pays m (at + length p))) (on (omega arith))
phase_pays (Phases.literal e k) at p g byte h = on (omega (arith, whole_two sized_body e at (length p)))
phase_pays (Phases.preamble m b os) at p g byte h = on (omega arith)
phase_pays {n} (Phases.opened m b os) at p g byte h = either (Pays n) (same crlf p) (λ t. on (omega arith)) (over refl)
phase_pays (Phases.content m e b os) at p g byte h = on (omega (arith, whole_two part_body e at (content_length b (length p)), delimiter_two b p g))
phase_pays {n} (Phases.between m b os) at p g byte h =
    either (Pays n) (same hyphens p) (λ t. skip_pays m (omega arith) b os (rest m (at + length p)))
    (either (Pays n) (same crlf p) (λ t. on (omega arith)) (over refl))
phase_pays {n} (Phases.skipping m b os) at p g byte h =
    either (Leads n) (last_line m (outermost b os) p) (λ t. popped_pays m (omega arith) os (at + length p))
    (skip_pays m (omega arith) b os (rest m (at + length p)))
phase_pays (Phases.resting m b os k) at p g byte h = popped_pays m (omega arith) os (at + length p)

-- a state that has ended reads nothing
react_pays : (st : State) (at : ℕ) (p : List ℕ) → fetch (need st) p ≡ got p [] → Pays (length p + credit st) (react st at p)
unfolding need react credit fetch reach parted
react_pays (reads ph) at p g = phase_pays ph at p g (got_moves (wants ph) p p [] g) (omega arith)
react_pays (ends o q) at p g = absurd (let z : ◌≡◌ {A = ℕ} 0 1 = cc in omega arith)

pays : (st : State) (at : ℕ) (p : List ℕ) → fetch (need st) p ≡ got p [] → length (react st at p).events + credit (react st at p).next ≤ length p + credit st
pays st at p g = (react_pays st at p g).paid

never_ten : (st : State) (at : ℕ) (p : List ℕ) → fetch (need st) p ≡ got p [] → is_ten (result_of (react st at p).next) ≡ false
never_ten st at p g = (react_pays st at p g).fine

-- ---- a run: what holds of each reaction adds up
pub record Bounded (st : State) (s : List ℕ) (o : Ran State) : Type 0 where
  pub few : length o.events ≤ length s + credit st
  pub fine : is_ten (result_of st) ≡ false → is_ten (result_of o.state) ≡ false

turn_bounded : (k : State → ℕ → List ℕ → Ran State) (st : State) (at : ℕ) (s : List ℕ) (g : Got) → fetch (need st) s ≡ g
    → ((su : State) (to : ℕ) (r : List ℕ) → Bounded su r (k su to r)) → Bounded st s (turn State fetches react k st at s g)
unfolding turn
turn_bounded k st at s short e b = record { few = omega arith; fine = λ h. h }
turn_bounded k st at s (got p r) e b =
    let i = got_itself (need st) s p r e in
    let rest = b (react st at p).next (at + length p) r in
    record {
      few = simp length-append (omega (arith, pays st at p i, rest.few, simp length-append at (ap length (got_splits (need st) s p r e))));
      fine = λ h. rest.fine (never_ten st at p i);
    }

go_bounded : (k : ℕ) (st : State) (at : ℕ) (s : List ℕ) → Bounded st s (go State fetches react k st at s)
unfolding go
go_bounded zero st at s = record { few = omega arith; fine = λ h. h }
go_bounded (suc k) st at s = turn_bounded (go State fetches react k) st at s (fetch (need st) s) refl (go_bounded k)

pub run_bounded : (st : State) (at : ℕ) (s : List ℕ) → Bounded st s (session st at s)
unfolding run
run_bounded st at s = go_bounded (length s) st at s

pub events_bound : (st : State) (at : ℕ) (s : List ℕ) → length (session st at s).events ≤ length s + credit st
events_bound st at s = (run_bounded st at s).few

-- ---- what the table holds of a run
module _ (t : List ℕ) (o : Ran State) where
  settled_count : (settle t no_events o).count ≤ length o.events
  unfolding settle
  settled_count = omega (arith, pour_count o.events t no_events (result_of o.state) (place_of o.state o.at))

  settled_fine : length o.events ≤ slots t → is_ten (result_of o.state) ≡ false → is_ten (settle t no_events o).result ≡ false
  unfolding settle
  settled_fine h f = rw (enough_plain o.events t (result_of o.state) (place_of o.state o.at) h) f

-- ---- the promises, for a session that starts without credit

-- the answer's event count is at most the number of bytes
pub count_bound : (start : Phase) → credit (reads start) ≡ 0 → (t s : List ℕ) → (answer start t s).count ≤ length s
unfolding answer
count_bound start c t s =
    either (λ (f : Final). f.count ≤ length s) (ltb limit (length s)) (λ b. omega arith)
    (omega (arith, settled_count t (session (reads start) 0 s), events_bound (reads start) 0 s))

-- with a slot for each byte, the result is never refusal 10
pub slots_suffice : (start : Phase) → credit (reads start) ≡ 0 → (t s : List ℕ) → length s ≤ slots t → is_ten (answer start t s).result ≡ false
unfolding answer is_ten result_of
slots_suffice start c t s h =
    either (λ (f : Final). is_ten f.result ≡ false) (ltb limit (length s)) (λ b. refl)
    (settled_fine t (session (reads start) 0 s) (omega (arith, events_bound (reads start) 0 s)) ((run_bounded (reads start) 0 s).fine refl))
