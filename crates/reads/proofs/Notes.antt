-- An event into the table, and one behind another.
-- Assumes nothing.
use mathlib.Core.Path.{◌≡◌, refl, ◌∙◌}
use mathlib.Core.Bool.{Bool, true, false, cond}
use mathlib.Core.List.{List, [], ◌∷◌, ◌++◌}
use Prim.Native.Nat.{ℕ, zero, suc, ◌+◌}
use native.Mathlib.Omega.{arith}
use Rattle.events.proofs.Laws.{further, pour_append}
use Rattle.events.specs.Events.{ev, body_stop}
use Rattle.events.specs.Table.{free, counted, pour, Puts}
use Rattle.events.specs.declared.Encoding.{Encoding}
use Rattle.events.specs.declared.Encoding.TheVariants.{Unsaid}
use Rattle.events.specs.declared.Event.{Event}
use Rattle.std.specs.Prelude.{Option, Some, None, ok_or, Result, Ok, Err}
use Rattle.events.specs.declared.Log.{Log}
use Rattle.events.specs.declared.Outcome.TheVariants.{TableFull}
use Rattle.rules.specs.Mail.{held, whole}
use Rattle.reads.specs.Clauses.{Stopped, Full, Written, Notes}
use Rattle.reads.specs.declared.Stop.{Stop}

written_if : (b : Bool) (next log : Log) → Some next ≡ cond b (Some log) None → (b ≡ true) × (next ≡ log)
written_if true next log h = (refl, cc)
written_if false next log h = absurd (let z : ◌≡◌ {A = ℕ} 0 1 = cc in omega arith)

full_if : (b : Bool) (log : Log) → None ≡ cond b (Some log) None → b ≡ false
full_if true log h = absurd (let z : ◌≡◌ {A = ℕ} 0 1 = cc in omega arith)
full_if false log h = refl

-- ---- one event
module _ {t : List ℕ} {log : Log} {e : Event} {u : List ℕ} where
  pub note_written : {next : Log} → Puts t log e (Some next) u → Written t log (e ∷ []) next u
  unfolding pour
  note_written {next} p =
      let w = written_if (free t log) next (counted log) p.answer in
      record { is = rw (p.table, w.0, w.1) }

  pub note_full : {a : Stop} → Puts t log e None u → Stopped TableFull e.offset log a → Full t log (e ∷ []) a u
  unfolding pour
  note_full p w =
      let f = full_if (free t log) (counted log) p.answer in
      record { result = w.result; is = rw (p.table, f, w.place, w.log) }

  pub noted : {a : Stop} (r : Option Log) → Puts t log e r u → Stopped TableFull e.offset log a → Notes t log (e ∷ []) (ok_or r a) u
  noted (Some next) p w = note_written p
  noted None p w = note_full p w

-- ---- events behind others that were written
pub notes_on : {t : List ℕ} {log : Log} {es : List Event} {next : Log} {u : List ℕ} (fs : List Event) (r : Result Log Stop) (v : List ℕ)
    → Written t log es next u → Notes u next fs r v → Notes t log (es ++ fs) r v
unfolding further
notes_on {t} {log} {es} fs (Ok last) v w n = record { is = pour_append es fs t log ∙ rw w.is n.is }
notes_on {t} {log} {es} fs (Err a) v w n = record { result = n.result; is = pour_append es fs t log ∙ rw w.is n.is }

-- and those that are not due any more
pub notes_none : {t : List ℕ} {log : Log} {es : List Event} (fs : List Event) {a : Stop} {u : List ℕ} → Full t log es a u → Full t log (es ++ fs) a u
unfolding further
notes_none {t} {log} {es} fs n = record { result = n.result; is = pour_append es fs t log ∙ rw n.is }

-- ---- a body and its stop
module _ (kind : ℕ) (e : Encoding) (at : ℕ) where
  pub whole_none : (n : ℕ) → n ≡ 0 → whole kind e at n ≡ ev body_stop at 0 Unsaid ∷ []
  unfolding whole held
  whole_none n h = let z : at + 0 ≡ at = omega arith in rw (h, z)

  pub whole_some : (n : ℕ) → (n ≡ 0 → ⊥) → whole kind e at n ≡ (ev kind at n e ∷ []) ++ (ev body_stop (at + n) 0 Unsaid ∷ [])
  unfolding whole held
  whole_some zero h = absurd (h refl)
  whole_some (suc n) h = refl
