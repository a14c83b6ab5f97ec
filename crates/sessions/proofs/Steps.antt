-- Walks, put together: what a read, an event or another walk leaves to do.
-- Assumes nothing.
use mathlib.Core.Path.{◌≡◌, refl, sym, ap, ◌∙◌}
use mathlib.Core.List.{List, [], ◌∷◌}
use Prim.Native.Nat.{ℕ, ◌≤◌}
use native.Mathlib.Nat.{le_refl}
use native.Mathlib.Omega.{arith}
use lib.ListN.{length, drop}
use Rattle.std.specs.Prelude.{Result, Ok, Err}
use Rattle.std.specs.Result.{IsErrAnd}
use Rattle.events.specs.declared.Event.{Event}
use Rattle.events.specs.declared.Log.{Log}
use Rattle.events.specs.declared.Outcome.{Outcome}
use Rattle.fields.specs.Common.{part}
use Rattle.reads.specs.Clauses.{Ends, Stopped, Full, Written}
use Rattle.reads.specs.declared.Stop.{Stop}
use Rattle.rules.specs.Machine.{Reaction, before}
use Rattle.rules.specs.Phases.{Phase, State, reads, ends, wants}
use Rattle.rules.specs.Sessions.{reacts, session, settle}
use Rattle.sessions.specs.Walks.{goes, Walk, reached, Moved, Walks, Short}
use Rattle.sessions.specs.declared.walks.Reached.{Reached}
use Rattle.sessions.proofs.Readings.{stays, turn, ended, written_left, full_left}

-- what was moved from j on was moved from anywhere before
pub further : (s : List ℕ) (i j : ℕ) (r : Walk) → i ≤ j → Moved s j r → Moved s i r
further s i j (Ok p) h m = (omega arith, m.1)
further s i j (Err a) h m = tt

-- ---- a loop over the lines of a phase, which has come from `at` to p
pub record Looped (s t : List ℕ) (log : Log) (at : ℕ) (ph : Phase) (p : Reached) (u : List ℕ) : Type 0 where
  pub walks : Walks s t log at (goes (reads ph)) (λ q. reads ph) (Ok p) u
  pub long : length u ≡ length t

module _ {s t : List ℕ} {log : Log} {to : ℕ → State} where
  -- ---- where a walk is already
  pub here : (p : ℕ) → p ≤ length s → Walks s t log p (goes (to p)) to (Ok (reached p log)) t
  here p h = record { moved = (le_refl p, h); is = refl }

  -- ---- a stop
  pub stop : {at : ℕ} {o : Outcome} {p : ℕ} {a : Stop} → Stopped o p log a → Walks s t log at (goes (ends o p)) to (Err a) t
  stop {at} {o} {p} w = record { moved = tt; is = ended o p at (drop at s) t log w }

  -- ---- a read of the phase: it is short
  pub read_stop : {at : ℕ} {a : Stop} (ph : Phase) → Short (wants ph) s log at a → Walks s t log at (goes (reads ph)) to (Err a) t
  read_stop {at} ph d = record { moved = tt; is = stays ph s t log at d }

  -- or it got its piece, and what the phase does with that is left to do
  pub read : {at e : ℕ} {r : Walk} {u : List ℕ} (ph : Phase) → Ends (wants ph) s at e → Walks s t log e (reacts ph at (part s at e)) to r u
      → Walks s t log at (goes (reads ph)) to r u
  read {at} {e} {r} ph d w = record {
    moved = further s at e r (omega (arith, d.on)) w.moved;
    is = w.is ∙ ap (settle t log) (sym (turn ph s at e d));
  }

  -- ---- an event: it finds no slot
  pub note_stop : {at : ℕ} {e : Event} {a : Stop} {u : List ℕ} (es : List Event) (st : State) → Full t log (e ∷ []) a u
      → Walks s t log at (record { events = e ∷ es; next = st }) to (Err a) u
  note_stop {at} es st n = record { moved = tt; is = full_left n (before es (session st at (drop at s))) }

  -- or it is written, and the events behind it are left to do
  pub note : {at : ℕ} {e : Event} {next : Log} {u v : List ℕ} {r : Walk} (es : List Event) (st : State) → Written t log (e ∷ []) next u
      → Walks s u next at (record { events = es; next = st }) to r v → Walks s t log at (record { events = e ∷ es; next = st }) to r v
  note {at} es st n w = record { moved = w.moved; is = w.is ∙ written_left n (before es (session st at (drop at s))) }

  -- ---- all events of a reaction: one finds no slot
  pub add_stop : {at : ℕ} {es : List Event} {a : Stop} {u : List ℕ} (st : State) → Full t log es a u → Walks s t log at (record { events = es; next = st }) to (Err a) u
  add_stop {at} st n = record { moved = tt; is = full_left n (session st at (drop at s)) }

  -- or they are written, and reading goes on here
  pub add : {at : ℕ} {es : List Event} {next : Log} {u : List ℕ} → Written t log es next u → at ≤ length s
      → Walks s t log at (record { events = es; next = to at }) to (Ok (reached at next)) u
  add {at} n h = record { moved = (le_refl at, h); is = written_left n (session (to at) at (drop at s)) }

-- ---- a walk
module _ {s t : List ℕ} {log : Log} {at : ℕ} {from : Reaction State} {mid : ℕ → State} {u : List ℕ} where
  -- and what follows it
  pub walked : {p : Reached} {to : ℕ → State} {r : Walk} {v : List ℕ} → Walks s t log at from mid (Ok p) u → Walks s u p.log p.at (goes (mid p.at)) to r v
      → Walks s t log at from to r v
  walked {p} {r = r} a b = record { moved = further s at p.at r a.moved.0 b.moved; is = b.is ∙ a.is }

  -- that stopped: nothing follows, so that where it was to go does not matter
  pub stopped : {to : ℕ → State} {a : Stop} → Walks s t log at from mid (Err a) u → Walks s t log at from to (Err a) u
  stopped w = record { moved = tt; is = w.is }

-- what the exit of a `?` returns
pub is_err : {A : Type 0} {a : Stop} (r : Result A Stop) → IsErrAnd r (λ e. e ≡ a) → r ≡ Err a
is_err (Ok x) h = absurd h
is_err (Err e) h = ap Err h
