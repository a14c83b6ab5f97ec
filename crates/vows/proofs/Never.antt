-- No window of a session that was begun is answered 20, no session: no phase ends so.
-- Assumes nothing.
use mathlib.Core.Path.{◌≡◌, refl}
use mathlib.Core.Bool.{Bool, true, false, cond}
use mathlib.Core.List.{List, [], ◌∷◌, flatten}
use Rattle.std.specs.Prelude.{Option, None, Some}
use Prim.Native.Nat.{ℕ, zero, suc, ◌+◌, ◌-◌}
use lib.Dec.{eqb, leb, ltb}
use lib.ListN.{length}
use borrow.Author.Tests.{eqb-false}
use Rattle.events.specs.Events.{result_number}
use Rattle.events.specs.Table.{no_events, Poured, all, full, pour, finish}
use Rattle.events.specs.declared.Encoding.{Encoding}
use Rattle.events.specs.declared.Event.{Event}
use Rattle.events.specs.declared.Outcome.{Outcome}
use Rattle.fields.specs.Common.{Known, unknown}
use Rattle.fields.specs.Imap.{is_append, holds_colon}
use Rattle.fields.specs.Pop3.{stls_answer, retr_answer}
use Rattle.fields.specs.Smtp.{starts_with_helo, is_mail_from, second_line, is_data, rcpt_to}
use Rattle.reading.specs.declared.Span.{Span}
use Rattle.fields.specs.declared.smtp.Second.{Second}
use Rattle.fields.specs.declared.smtp.Second.TheVariants as is
use Rattle.reading.specs.Bytes.{starts_with, same}
use Rattle.reading.specs.Reading.{clean, crlf, Got, got, short, fetch}
use Rattle.reading.specs.Text.{text}
use Rattle.rules.proofs.Strict.{CutShort, alike as same_run, cut_at, cut_short}
use Rattle.rules.specs.Imap.{on_command, on_offered, on_closing}
use Rattle.rules.specs.Machine.{Reaction, Ran, turn, go, run}
use Rattle.rules.specs.Mail.{dot_line, hyphens, levels, after_mail, rest, literal_body, plain_mail, boundary_free, begun, on_head, on_text, on_literal, on_preamble, on_opened, on_content, outermost, by_rest, skip, on_between, last_line, popped, on_skipping, on_resting}
use Rattle.rules.specs.Phases
use Rattle.rules.specs.Phases.{Phase, State, reads, ends, need, then, stop, ahead}
use Rattle.rules.specs.Pop3.{on_status}
use Rattle.rules.specs.Sessions.{reacts, react, fetches, session, result_of, start_of}
use Rattle.rules.specs.Smtp.{on_hello, by_second, on_second, on_user, on_password, on_sender, on_seeking, by_recipient, on_recipient, on_reply}
use Rattle.rules.specs.declared.Entry.{Entry}
use Rattle.rules.specs.declared.Mail.{Mail}
use Rattle.rules.specs.declared.Mail.TheVariants.{Smtp, Pop3, Imap}
use Rattle.rules.specs.declared.Settings.{Settings}
use Rattle.windows.proofs.Beyond.{Reached, within, beyond, reached}
use Rattle.windows.proofs.Bridge.{Told, Agrees, alike, longer, bridge}
use Rattle.windows.proofs.Cut.{settled, stands_says, entries}
use Rattle.windows.specs.Stands.{Stand, enter, enters, pieces, stand_result, stand_place}
use Rattle.windows.specs.Windows.{Tap, tapped, shows_all, lastly}

-- the result is 20: no session
unfoldable pub is_twenty : Outcome → Bool
is_twenty r = eqb (result_number r) 20

-- a reaction that does not end so
record Own (re : Reaction State) : Type 0 where
  fine : is_twenty (result_of re.next) ≡ false

on : {es : List Event} {ph : Phase} → Own (then es ph)
unfolding result_of is_twenty
on = record { fine = refl }

over : {r : Outcome} {p : ℕ} → is_twenty r ≡ false → Own (stop [] r p)
unfolding result_of
over h = record { fine = h }

listed : {e : Event} {re : Reaction State} → Own re → Own (ahead e re)
listed p = record { fine = p.fine }

either : {A : Type 0} (P : A → Type 0) (b : Bool) {x y : A} → P x → P y → P (cond b x y)
either P true h g = h
either P false h g = g

abbrev Leads : State → Type 0
Leads st = Own (record { events = []; next = st })

-- ---- the reactions, kind by kind
second_own : (k : Second) (at : ℕ) (l : List ℕ) → Own (by_second k at l)
unfolding by_second is_twenty
second_own is.StartTls at l = over refl
second_own is.AuthLogin at l = on
second_own is.MailFrom at l = on
second_own is.Other at l = on

recipient_own : (at : ℕ) (a : Option Span) → Own (by_recipient at a)
unfolding by_recipient is_twenty
recipient_own at (Some s) = on
recipient_own at None = over refl

after_own : (m : Mail) (to : ℕ) → Leads (after_mail m to)
unfolding after_mail is_twenty
after_own Smtp to = over refl
after_own Pop3 to = on
after_own (Imap size start) to = on

popped_own : (m : Mail) (os : List (List ℕ)) (to : ℕ) → Leads (popped m os to)
unfolding popped
popped_own m [] to = after_own m to
popped_own m (b ∷ os) to = on

skip_own : (m : Mail) (b : List ℕ) (os : List (List ℕ)) (left : ℕ) → Leads (by_rest m b os left)
unfolding by_rest
skip_own m b os zero = on
skip_own m b os (suc k) = either Leads (ltb (suc k) (length (outermost b os))) on on

literal_own : (e : Encoding) (to k : ℕ) → Own (literal_body e to k)
unfolding literal_body
literal_own e to zero = on
literal_own e to (suc k) = on

mail_own : (m : Mail) (e : Encoding) (to : ℕ) → Own (plain_mail m e to)
unfolding plain_mail is_twenty
mail_own Smtp e to = on
mail_own Pop3 e to = on
mail_own (Imap size start) e to = either Own (ltb size (to - start)) (over refl) (literal_own e to (rest (Imap size start) to))

plain_own : (m : Mail) (e : Encoding) (os : List (List ℕ)) (to : ℕ) → Own (boundary_free m e os to)
unfolding boundary_free
plain_own m e [] to = mail_own m e to
plain_own m e (b ∷ os) to = on

begun_own : (m : Mail) (e : Encoding) (b : Option (List ℕ)) (os : List (List ℕ)) (to : ℕ) → Own (begun m e b os to)
unfolding begun is_twenty
begun_own m e None os to = plain_own m e os to
begun_own m e (Some b) os to = either Own (leb levels (length os)) (over refl) on

head_own : (m : Mail) (k : Known) (os : List (List ℕ)) (at : ℕ) (l : List ℕ) → Own (on_head m k os at l)
unfolding on_head
head_own m k os at l = listed (either Own (same crlf l) (begun_own m k.encoding k.boundary os (at + length l)) on)

command_own : (at : ℕ) (l : List ℕ) → Own (on_command at l)
unfolding on_command
command_own at l = listed (either Own (is_append (clean l)) on on)

-- ---- every phase
phase_own : (ph : Phase) (at : ℕ) (p : List ℕ) → Own (reacts ph at p)
unfolding reacts is_twenty on_hello on_second on_user on_password on_sender on_seeking on_recipient on_reply on_status on_offered on_closing on_text on_literal on_preamble
    on_opened on_content on_between on_skipping on_resting skip
phase_own Phases.hello at p = either Own (starts_with_helo p) on (over refl)
phase_own Phases.second at p = second_own (second_line (clean p)) at (clean p)
phase_own Phases.user at p = on
phase_own Phases.password at p = on
phase_own Phases.sender at p = on
phase_own Phases.seeking at p = either Own (is_mail_from (clean p)) on on
phase_own Phases.recipient at p = either Own (is_data (clean p)) on (recipient_own at (rcpt_to (clean p)))
phase_own Phases.reply at p = listed (either Own (starts_with (text "221") (clean p)) (over refl) on)
phase_own Phases.status at p = listed (either Own (stls_answer (clean p)) (over refl) (either Own (retr_answer (clean p)) on on))
phase_own Phases.command at p = command_own at p
phase_own (Phases.offered size) at p = either Own (holds_colon p) (head_own (Imap size at) unknown [] at p) (command_own at p)
phase_own Phases.closing at p = either Own (same crlf p) on (over refl)
phase_own (Phases.head m k os) at p = head_own m k os at p
phase_own (Phases.text m e) at p = either Own (same dot_line p) (listed (after_own m (at + length p))) on
phase_own (Phases.literal e k) at p = on
phase_own (Phases.preamble m b os) at p = on
phase_own (Phases.opened m b os) at p = either Own (same crlf p) on (over refl)
phase_own (Phases.content m e b os) at p = on
phase_own (Phases.between m b os) at p = either Own (same hyphens p) (skip_own m b os (rest m (at + length p))) (either Own (same crlf p) on (over refl))
phase_own (Phases.skipping m b os) at p =
    either Leads (last_line m (outermost b os) p) (popped_own m os (at + length p)) (skip_own m b os (rest m (at + length p)))
phase_own (Phases.resting m b os k) at p = popped_own m os (at + length p)

-- ---- a run
Kept : State → Type 0
Kept st = is_twenty (result_of st) ≡ false

react_own : (st : State) (at : ℕ) (p : List ℕ) → Kept st → Kept (react st at p).next
unfolding react Kept
react_own (reads ph) at p h = (phase_own ph at p).fine
react_own (ends r q) at p h = h

turn_own : (k : State → ℕ → List ℕ → Ran State) (st : State) (at : ℕ) (s : List ℕ) (g : Got) → Kept st
    → ((su : State) (to : ℕ) (r : List ℕ) → Kept su → Kept (k su to r).state) → Kept (turn State fetches react k st at s g).state
unfolding turn
turn_own k st at s short h b = h
turn_own k st at s (got p r) h b = b (react st at p).next (at + length p) r (react_own st at p h)

go_own : (k : ℕ) (st : State) (at : ℕ) (s : List ℕ) → Kept st → Kept (go State fetches react k st at s).state
unfolding go
go_own zero st at s h = h
go_own (suc k) st at s h = turn_own (go State fetches react k) st at s (fetch (need st) s) h (go_own k)

session_own : (ph : Phase) (at : ℕ) (s : List ℕ) → is_twenty (result_of (session (reads ph) at s).state) ≡ false
unfolding run Kept result_of is_twenty
session_own ph at s = go_own (length s) (reads ph) at s refl

-- ---- by windows
agrees_own : (x y : Told) → Agrees x y → is_twenty y.result ≡ false → is_twenty x.result ≡ false
unfolding is_twenty
agrees_own x y (alike e) h = rw e h
agrees_own x y (longer e more g) h = rw e

cut_own : (x y : Ran State) → CutShort x y → is_twenty (result_of y.state) ≡ false → is_twenty (result_of x.state) ≡ false
unfolding is_twenty result_of
cut_own x y (same_run e) h = rw e h
cut_own x y (cut_at p e more g) h = rw e

pieces_own : (set : Settings) (e : Entry) (s : List ℕ) → is_twenty (stand_result (pieces set (enters (start_of e) 0) 0 s).state) ≡ false
unfolding enter
pieces_own set e s =
    agrees_own _ _ (bridge set (reads (start_of e)) 0 s) (cut_own _ _ (cut_short set (reads (start_of e)) 0 s) (session_own (start_of e) 0 s))

finish_own : (x : Poured) (r : Outcome) (p : ℕ) → is_twenty r ≡ false → is_twenty (finish x r p).result ≡ false
unfolding finish is_twenty
finish_own (all t log) r p h = h
finish_own (full t q log) r p h = refl

settled_own : (t : List ℕ) (o : Ran Stand) → is_twenty (stand_result o.state) ≡ false → is_twenty (settled t o).result ≡ false
unfolding settled
settled_own t o h = finish_own (pour o.events t no_events) (stand_result o.state) (stand_place o.state o.at) h

module _ (set : Settings) (e : Entry) (t : List ℕ) (ws : List (List ℕ)) where
  abbrev x : Tap
  x = shows_all (tapped set (start_of e) t) ws

  by_reached : Reached set t (enters (start_of e) 0) (entries e).firm (flatten ws) x → is_twenty (lastly x).result ≡ false
  unfolding is_twenty
  by_reached (within i) =
      let o = pieces set (enters (start_of e) 0) 0 (flatten ws) in
      rw (stands_says set t o x i) (settled_own t o (pieces_own set e (flatten ws)))
  by_reached (beyond seen more m u log p h q) = rw q refl

  -- whatever windows were shown, the answer is not 20
  pub never_twenty : result_number (lastly x).result ≡ 20 → ⊥
  unfolding is_twenty
  never_twenty = eqb-false (result_number (lastly x).result) 20 (by_reached (reached set e t ws))
