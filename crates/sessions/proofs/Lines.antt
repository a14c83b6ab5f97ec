-- What listing a line means for whoever asks for it.
-- Assumes nothing.
use mathlib.Core.Path.{◌≡◌, sym, ap, ◌∙◌}
use mathlib.Core.List.{List, [], ◌∷◌}
use Prim.Native.Nat.{ℕ, ◌-◌}
use native.Mathlib.Omega.{arith}
use lib.ListN.{drop}
use Rattle.std.specs.Prelude.{Err}
use Rattle.events.specs.Events.{ev}
use Rattle.events.specs.declared.Encoding.TheVariants.{Unsaid}
use Rattle.events.specs.declared.Log.{Log}
use Rattle.fields.specs.Common.{part}
use Rattle.reading.specs.Reading.{a_line}
use Rattle.reads.proofs.Laws.{clean_length}
use Rattle.reads.specs.Clauses.{Ends, Cleaned, Full, Written}
use Rattle.reads.specs.declared.Stop.{Stop}
use Rattle.rules.specs.Machine.{before}
use Rattle.rules.specs.Phases.{Phase, State, reads, wants}
use Rattle.rules.specs.Sessions.{session, settle}
use Rattle.sessions.specs.Walks.{goes, under, Walk, Walks, Short, Lists, apart, LinedTo, LinedStop}
use Rattle.sessions.specs.declared.walks.Lined.{Lined}
use Rattle.sessions.proofs.Readings.{stays, turn, written_left, full_left}
use Rattle.sessions.proofs.Steps.{further}

-- ---- a line, listed clean
module _ (s t : List ℕ) (log : Log) (at kind : ℕ) where
  -- the turn of a phase that lists its lines
  listing : (end e : ℕ) (ph : Phase) (h : Lists kind at ph) → Cleaned s at end e
      → session (reads ph) at (drop at s) ≡ before (ev kind at (end - at) Unsaid ∷ []) (under (apart h (part s at e)) e (drop e s))
  listing end e ph h d =
      let f : Ends (wants ph) s at e = rw h.wants d.ends in
      turn ph s at e f ∙ rw (h.is (part s at e), ← clean_length d)

  -- its event is written
  pub lined_to : {end e : ℕ} {next : Log} {u : List ℕ} → Cleaned s at end e → Written t log (ev kind at (end - at) Unsaid ∷ []) next u
      → LinedTo s t log at kind (record { clean = end; to = record { at = e; log = next } }) u
  lined_to {end} {e} d p = record {
    line = d;
    is = λ ph h. written_left p (under (apart h (part s at e)) e (drop e s)) ∙ ap (settle t log) (sym (listing end e ph h d));
  }

  -- its event finds no slot
  pub lined_full : {end e : ℕ} {a : Stop} {u : List ℕ} → Cleaned s at end e
      → Full t log (ev kind at (end - at) Unsaid ∷ []) a u → LinedStop s t log at kind a u
  lined_full {end} {e} d p = record {
    is = λ ph h. full_left p (under (apart h (part s at e)) e (drop e s)) ∙ ap (settle t log) (sym (listing end e ph h d));
  }

  -- the line is short
  pub lined_short : {a : Stop} → Short a_line s log at a → LinedStop s t log at kind a t
  lined_short d = record { is = λ ph h. stays ph s t log at (rw h.wants d) }

-- ---- what a listed line leaves to do
module _ {s t : List ℕ} {log : Log} {at kind : ℕ} {ph : Phase} {u : List ℕ} {to : ℕ → State} (h : Lists kind at ph) where
  -- what the phase does with it, its event apart
  pub line_on : {l : Lined} {r : Walk} {v : List ℕ} → LinedTo s t log at kind l u
      → Walks s u l.to.log l.to.at (apart h (part s at l.to.at)) to r v → Walks s t log at (goes (reads ph)) to r v
  line_on {l} {r} d w = record { moved = further s at l.to.at r (omega (arith, d.line.ends.on)) w.moved; is = w.is ∙ d.is ph h }

  -- nothing, where it stopped
  pub line_stop : {a : Stop} → LinedStop s t log at kind a u → Walks s t log at (goes (reads ph)) to (Err a) u
  line_stop d = record { moved = tt; is = d.is ph h }
