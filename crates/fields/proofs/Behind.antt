-- Bytes counted by the code, a run's or others, and what stands behind them.
-- Assumes nothing.
use mathlib.Core.Path.{◌≡◌, refl, ap, ◌∙◌}
use mathlib.Core.Bool.{Bool, true, false, ◌&&◌}
use mathlib.Core.List.{List}
use Prim.Native.Nat.{ℕ, ◌-◌, ◌≤◌, ◌<◌}
use native.Mathlib.Omega.{arith}
use lib.Dec.{ltb}
use lib.ListN.{length, take, drop}
use lib.Seq.{length-take-le}
use borrow.Author.Tests.{lt-ltb, le-ltb}
use Rattle.reading.proofs.Words.{rest_is}
use Rattle.std.specs.Option.{unwrap_or}
use Rattle.std.specs.Prelude.{Option, Some, None}
use Rattle.fields.specs.Runs.{lead}
use Rattle.fields.specs.Smtp.{up_to_end}
use Rattle.fields.proofs.Led.{lead_within}

-- ---- a count, one byte at least, and a test of what stands behind it
module _ (l : List ℕ) {n m : ℕ} (e : n ≡ m) where
  behind : take (length l - n) (drop n l) ≡ drop m l
  behind = rest_is l n ∙ ap (λ (k : ℕ). drop k l) e

  pub counted_none : (test : List ℕ → Bool) → n ≤ 0 → ltb 0 n ≡ (ltb 0 m && test (drop m l))
  counted_none test h = rw (le-ltb 0 n h, le-ltb 0 m (omega arith))

  pub counted_some : (test : List ℕ → Bool) {t : Bool} → 0 < n → t ≡ test (take (length l - n) (drop n l)) → t ≡ (ltb 0 m && test (drop m l))
  counted_some test h q = rw (lt-ltb 0 m (omega arith)) (q ∙ ap test behind)

-- ---- a run
module _ (r : ℕ → Bool) (l : List ℕ) {n : ℕ} (e : n ≡ lead r l) where
  pub run_none : n ≡ 0 → ltb 0 (lead r l) ≡ false
  run_none h = le-ltb 0 (lead r l) (omega arith)

  pub run_some : 0 < n → ltb 0 (lead r l) ≡ true
  run_some h = lt-ltb 0 (lead r l) (omega arith)

  pub run_within : n ≤ length l
  run_within = omega (arith, lead_within r l)

  pub run_length : n ≡ length (take n l)
  run_length = omega (arith, length-take-le n l run_within)

  pub run_is : take n l ≡ take (lead r l) l
  run_is = ap (λ (k : ℕ). take k l) e

  pub behind_run : take (length l - n) (drop n l) ≡ drop (lead r l) l
  behind_run = behind l e

  pub behind_none : (test : List ℕ → Bool) → n ≤ 0 → ltb 0 n ≡ (ltb 0 (lead r l) && test (drop (lead r l) l))
  behind_none = counted_none l e

  pub behind_some : (test : List ℕ → Bool) {t : Bool} → 0 < n → t ≡ test (take (length l - n) (drop n l)) → t ≡ (ltb 0 (lead r l) && test (drop (lead r l) l))
  behind_some test h q = counted_some l e test h q

-- ---- what stands up to a byte, or to the end where there is none
pub up_to_either : (n : ℕ) (q : Option ℕ) → unwrap_or q n ≡ up_to_end n q
unfolding up_to_end
up_to_either n (Some q) = refl
up_to_either n None = refl
