-- The demands' promises for the four entries, at the level of their contracts.
-- Assumes nothing.
use mathlib.Core.Path.{◌≡◌, refl, ap, ◌∙◌}
use mathlib.Core.List.{List}
use Prim.Native.Nat.{ℕ, ◌≤◌}
use native.Mathlib.Omega.{arith}
use lib.ListN.{length, take}
use Rattle.events.specs.Events.{result_number}
use Rattle.events.specs.Table.{Final, final_of, slots}
use Rattle.rules.proofs.Counting as counts
use Rattle.rules.proofs.Counting.{credit, phase_credit, is_ten}
use Rattle.rules.proofs.Kept as kept
use Rattle.rules.proofs.Secrecy as rule
use Rattle.rules.specs.Phases.{reads}
use Rattle.rules.specs.Secrecy.{Replaced, events_of}
use Rattle.rules.specs.Sessions.{start_of, answer_of}
use Rattle.rules.specs.declared.Entry.{Entry}
use Rattle.rules.specs.declared.Entry.TheVariants.{SmtpClient, SmtpServer, Pop3Server, ImapClient}
use Rattle.promises.specs.Promises.{Exit, Owes, Untouched, session_events}
use Rattle.promises.proofs.Determined.{entries}

-- ---- demand 1: every number of the table past the events is untouched, and so is the table's length
pub untouched : (e : Entry) (t s : List ℕ) (x : Exit) → Owes e t s x → Untouched t x
untouched e t s x h =
    let k = kept.kept (start_of e) t s in
    record {
      long = ap (λ (f : Final). length f.table) h.is ∙ k.long;
      behind = rw (ap (λ (f : Final). f.table) h.is, ap (λ (f : Final). f.count) h.is) k.behind;
    }

-- ---- demand 3: u is the session s with bytes replaced inside the events that its exit lists, as far as is permitted. Then the exits are identical:
-- result, place, count, and every number of the table
pub secrecy : (e : Entry) (t s u : List ℕ) (x y : Exit) → Owes e t s x → Owes e t u y → Replaced (events_of (final_of x.table x.answer)) 0 s u → x ≡ y
secrecy e t s u x y h g w = entries e t s x y h (record { is = g.is ∙ rule.secrecy (start_of e) t s u (rw h.is at w) })

-- and for what has come of the two sessions so far: each beginning of the one has the exit of the other's
pub beginnings : (e : Entry) (s u : List ℕ) → Replaced (session_events e s) 0 s u
    → (k : ℕ) (t : List ℕ) (x y : Exit) → Owes e t (take k s) x → Owes e t (take k u) y → x ≡ y
unfolding session_events
beginnings e s u w k t x y h g = entries e t (take k s) x y h (record { is = g.is ∙ rule.beginnings (start_of e) s u w k t })

-- ---- the event count never exceeds the buffer's length
no_credit : (e : Entry) → credit (reads (start_of e)) ≡ 0
unfolding credit phase_credit
no_credit SmtpClient = refl
no_credit SmtpServer = refl
no_credit Pop3Server = refl
no_credit ImapClient = refl

pub count_bound : (e : Entry) (t s : List ℕ) (x : Exit) → Owes e t s x → x.answer.count ≤ length s
count_bound e t s x h = rw (ap (λ (f : Final). f.count) h.is) (counts.count_bound (start_of e) (no_credit e) t s)

-- so that a slot per byte always suffices: refusal 10 is never given
pub slots_suffice : (e : Entry) (t s : List ℕ) (x : Exit) → Owes e t s x → length s ≤ slots t → result_number x.answer.result ≡ 10 → ⊥
unfolding is_ten
slots_suffice e t s x h g ten =
    let r : result_number (answer_of e t s).result ≡ 10 = rw (ap (λ (f : Final). f.result) h.is) at ten in
    let b = rw r at (counts.slots_suffice (start_of e) (no_credit e) t s g) in
    let z : ◌≡◌ {A = ℕ} 0 1 = cc in
    omega arith
