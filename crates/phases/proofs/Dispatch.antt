-- The loop over phases: what each phase may ask, where a session ends, and how turns add up to a window.
-- Assumes nothing.
use mathlib.Core.Path.{◌≡◌, refl, sym, ap, ◌∙◌}
use mathlib.Core.Bool.{Bool, cond}
use mathlib.Core.List.{List}
use Prim.Native.Nat.{ℕ, ◌+◌, ◌≤◌}
use native.Mathlib.Omega.{arith}
use lib.Dec.{eqb}
use lib.ListN.{length, drop}
use Rattle.events.specs.Events.{result_number}
use Rattle.events.specs.Table.{pour}
use Rattle.events.specs.declared.Encoding.{Encoding}
use Rattle.events.specs.declared.Log.{Log}
use Rattle.events.specs.declared.Outcome.{Outcome}
use Rattle.reading.proofs.Places.{by_test}
use Rattle.reads.specs.Clauses.{Begins}
use Rattle.rules.specs.Phases.{ends}
use Rattle.rules.specs.Sessions.{result_of}
use Rattle.rules.specs.declared.Mail.{Mail}
use Rattle.rules.specs.declared.Settings.{Settings}
use Rattle.windows.proofs.Cut.{over_stays}
use Rattle.windows.specs.Stands.{fresh, stand_result}
use Rattle.windows.specs.Windows.{over, keeps, landed, lands}
use Rattle.phases.specs.Phasing.{Slots, state_of, Fits, Came, Goes, Ready}
use Rattle.phases.specs.declared.Heard.{Heard}
use Rattle.phases.specs.declared.Phase.TheVariants as is
use Rattle.phases.specs.declared.Spot.{Spot}

-- ---- the numbers that a phase holds
module _ {w : List ℕ} {base : ℕ} {k : List ℕ} {s : Spot} (h : Ready w base k s) where
  pub ready_head : {m : Mail} {x : Heard} {i : ℕ} → s.phase ≡ is.Head m x i → (i ≤ 8) × Begins m (base + s.taken)
  unfolding Fits
  ready_head e = rw e at h.fits

  pub ready_literal : {e : Encoding} {from left : ℕ} → s.phase ≡ is.Literal e from left → from ≤ base + s.taken
  unfolding Fits
  ready_literal e = rw e at h.fits

  pub ready_preamble : {m : Mail} {i from : ℕ} {here : Bool} → s.phase ≡ is.Preamble m i from here → (i ≤ 7) × (from ≤ base + s.taken) × Begins m (base + s.taken)
  unfolding Fits
  ready_preamble e = rw e at h.fits

  pub ready_opened : {m : Mail} {i : ℕ} → s.phase ≡ is.Opened m i → (i ≤ 7) × Begins m (base + s.taken)
  unfolding Fits
  ready_opened e = rw e at h.fits

  pub ready_content : {m : Mail} {c : Encoding} {i from : ℕ} {here : Bool} → s.phase ≡ is.Content m c i from here
      → (i ≤ 7) × (from ≤ base + s.taken) × Begins m (base + s.taken)
  unfolding Fits
  ready_content e = rw e at h.fits

  pub ready_between : {m : Mail} {i : ℕ} → s.phase ≡ is.Between m i → (i ≤ 7) × Begins m (base + s.taken)
  unfolding Fits
  ready_between e = rw e at h.fits

  pub ready_skipping : {m : Mail} {i : ℕ} → s.phase ≡ is.Skipping m i → (i ≤ 7) × Begins m (base + s.taken)
  unfolding Fits
  ready_skipping e = rw e at h.fits

  pub ready_resting : {m : Mail} {i left : ℕ} → s.phase ≡ is.Resting m i left → (i ≤ 7) × Begins m (base + s.taken)
  unfolding Fits
  ready_resting e = rw e at h.fits

-- ---- the end: done takes what was read, a refusal nothing
pub ends_here : {set : Settings} {w : List ℕ} {base p : ℕ} {k t : List ℕ} {log : Log} {o : Outcome} {q n : ℕ} → p ≤ length w → n ≡ cond (eqb (result_number o) 0) p 0
    → Goes set w base p k t log (state_of k (is.Over o q)) (record { phase = is.Over o q; taken = n; log = log }) t
unfolding lands pour landed keeps over stand_result result_of state_of Fits
ends_here {set} {w} {base} {p} {k} {t} {log} {o} {q} {n} h e =
    let stays = over_stays set (fresh (ends o q)) (base + p) (drop p w) refl in
    by_test (eqb (result_number o) 0)
    (λ b.
    let z : n ≡ p = e ∙ rw b in
    record { within = omega arith; fits = tt; is = sym (ap (lands base t log) stays ∙ rw (b, z)) })
    (λ b.
    let z : n ≡ 0 = e ∙ rw b in
    let y : base + 0 ≡ base = omega arith in
    record { within = omega arith; fits = tt; is = sym (ap (lands base t log) stays ∙ rw (b, z, y)) })

-- ---- turns, one after another
pub record Arrived (set : Settings) (w : List ℕ) (base : ℕ) (k₀ t₀ : List ℕ) (s₀ : Spot) (k t : List ℕ) (s : Spot) : Type 0 where
  pub slots : Slots k
  pub fits : Fits s.phase (base + s.taken)
  pub came : Came set w base s₀.taken t₀ s₀.log (state_of k₀ s₀.phase) s.taken t s.log (state_of k s.phase)
  pub as_many : length k ≡ length k₀
  pub long : length t ≡ length t₀
