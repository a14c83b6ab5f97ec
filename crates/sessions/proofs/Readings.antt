-- What reads and events mean for a session: a turn, a stop, an event into the table.
-- Assumes nothing.
use mathlib.Core.Path.{◌≡◌, refl, sym, ap, ◌∙◌}
use mathlib.Core.List.{List}
use Prim.Native.Nat.{ℕ, ◌+◌, ◌≤◌}
use native.Mathlib.Omega.{arith}
use lib.ListN.{length, drop, length-take, length-drop}
use Rattle.events.proofs.Laws.{further, pour_append}
use Rattle.events.specs.Table.{pour, finish}
use Rattle.events.specs.declared.Event.{Event}
use Rattle.events.specs.declared.Log.{Log}
use Rattle.events.specs.declared.Outcome.{Outcome}
use Rattle.events.specs.declared.Outcome.TheVariants.{Incomplete}
use Rattle.fields.specs.Common.{part, bytes_of}
use Rattle.reading.specs.Bytes.{first_place}
use Rattle.reading.specs.Reading.{dash, delimits, delimiter, past, short, reach, parted, fetch}
use Rattle.reading.specs.declared.Span.{Span}
use Rattle.std.specs.Prelude.{Some, None}
use Rattle.reads.proofs.Laws.{ends_at}
use Rattle.reads.specs.Clauses.{Ends, Stopped, final_at, Full, Written}
use Rattle.reads.specs.declared.Stop.{Stop}
use Rattle.rules.proofs.Machines.{session_short, session_got}
use Rattle.rules.specs.Machine.{Ran, before}
use Rattle.rules.specs.Phases.{Phase, State, reads, ends, wants, need}
use Rattle.rules.specs.Sessions.{reacts, react, session, result_of, place_of, settle}
use Rattle.sessions.specs.Walks.{under, Lies, Short}

-- ---- a read that is short: the session is incomplete where the read began
pub stays : (ph : Phase) (s t : List ℕ) (log : Log) (at : ℕ) {a : Stop} → Short (wants ph) s log at a → final_at t a ≡ settle t log (session (reads ph) at (drop at s))
unfolding fetch parted settle finish pour result_of place_of need
stays ph s t log at d =
    let f : fetch (wants ph) (drop at s) ≡ short = rw d.short in
    rw (d.is.result, d.is.place, d.is.log) (sym (ap (settle t log) (session_short (reads ph) at (drop at s) f)))

-- ---- a turn: a read that got its piece, and the session goes on behind it
pub turn : (ph : Phase) (s : List ℕ) (i j : ℕ) → Ends (wants ph) s i j → session (reads ph) i (drop i s) ≡ under (reacts ph i (part s i j)) j (drop j s)
unfolding need react
turn ph s i j e =
    let n : i + length (part s i j) ≡ j = omega (arith, e.long, e.on) in
    session_got (reads ph) i (drop i s) (part s i j) (drop j s) e.is
    ∙ ap (λ (k : ℕ). under (reacts ph i (part s i j)) k (drop j s)) n

-- the end stays the end
pub ended : (o : Outcome) (p at : ℕ) (l t : List ℕ) (log : Log) {a : Stop} → Stopped o p log a → final_at t a ≡ settle t log (session (ends o p) at l)
unfolding fetch parted reach need settle finish pour result_of place_of
ended o p at l t log w = rw (w.result, w.place, w.log) (sym (ap (settle t log) (session_short (ends o p) at l refl)))

-- ---- events that were noted, whatever comes behind them
module _ {t : List ℕ} {log : Log} {es : List Event} {u : List ℕ} where
  -- all are written: what comes behind them is left to do
  pub written_left : {next : Log} → Written t log es next u → (o : Ran State) → settle u next o ≡ settle t log (before es o)
  unfolding settle further
  written_left w o = rw (pour_append es o.events t log, w.is)

  -- one found no slot: nothing is
  pub full_left : {a : Stop} → Full t log es a u → (o : Ran State) → final_at u a ≡ settle t log (before es o)
  unfolding settle further finish
  full_left w o = rw (pour_append es o.events t log, w.is, w.result)

-- ---- a boundary in the buffer

-- its bytes are as many as it says
pub bytes_long : (s : List ℕ) (b : Span) → Lies s b → length (bytes_of s b) ≡ b.len
bytes_long s b h = omega (arith, length-take b.len (drop b.at s), length-drop b.at s)

-- the first delimiter for it: the read ends behind that
pub delimited_ends : (s : List ℕ) (i p : ℕ) (b : Span) → i ≤ length s → Lies s b
    → first_place (delimits (bytes_of s b) (drop i s)) (drop i s) ≡ Some p → Ends (delimiter (bytes_of s b)) s i (i + p + 2 + b.len)
unfolding reach past
delimited_ends s i p b h g e =
    let l : length (dash (bytes_of s b)) ≡ 2 + b.len = omega (arith, bytes_long s b g) in
    let n : i + p + 2 + b.len ≡ i + (p + (2 + b.len)) = omega arith in
    rw n (ends_at (delimiter (bytes_of s b)) s i (p + (2 + b.len)) h (rw (e, l)))

-- no delimiter for it: the read is short
pub delimited_short : (s : List ℕ) (log : Log) (i : ℕ) (b : Span) {a : Stop}
    → first_place (delimits (bytes_of s b) (drop i s)) (drop i s) ≡ None → Stopped Incomplete i log a → Short (delimiter (bytes_of s b)) s log i a
unfolding reach past
delimited_short s log i b e w = record { short = rw e; is = w }
