-- The last place that passes a test: what one turn of a search from the end shows of it, and where it lies.
-- Assumes nothing.
use mathlib.Core.Path.{◌≡◌, refl, sym, ap, ◌∙◌}
use mathlib.Core.Bool.{Bool, true, false, cond}
use mathlib.Core.List.{List}
use Prim.Native.Nat.{ℕ, zero, suc, ◌+◌, ◌-◌, ◌≤◌, ◌<◌}
use native.Mathlib.Omega.{arith}
use lib.Dec.{ltb}
use lib.ListN.{length}
use borrow.Author.Tests.{ltb-true, ltb-false}
use Rattle.reading.proofs.Places.{at_same, by_test}
use Rattle.std.specs.Option.{SomeIff}
use Rattle.std.specs.Prelude.{Option, Some, None}
use Rattle.reading.specs.Blocks.{Last}
use Rattle.fields.specs.Runs.{last, last_place, through}

-- ---- a search that has come down to n: the last of the first n places is the last place
pub record Back (test : ℕ → Bool) (l : List ℕ) (n : ℕ) : Type 0 where
  pub within : n ≤ length l
  pub is : last test n ≡ last_place test l

pub back_none_yet : (test : ℕ → Bool) (l : List ℕ) → Back test l (length l)
unfolding last_place
back_none_yet test l = record { within = omega arith; is = refl }

module _ {test : ℕ → Bool} {l : List ℕ} {n : ℕ} (b : Back test l n) where
  pub back_here : 0 < n → test (n - 1) ≡ true → last_place test l ≡ Some (n - 1)
  unfolding last
  back_here h t =
      let m : n ≡ suc (n - 1) = omega arith in
      let e : last test (suc (n - 1)) ≡ Some (n - 1) = rw t in
      sym b.is ∙ ap (last test) m ∙ e

  pub back_on : 0 < n → test (n - 1) ≡ false → Back test l (n - 1)
  unfolding last
  back_on h t =
      let m : n ≡ suc (n - 1) = omega arith in
      let e : last test (suc (n - 1)) ≡ last test (n - 1) = rw t in
      record { within = omega (arith, b.within); is = sym e ∙ ap (last test) (sym m) ∙ b.is }

  pub back_in_vain : n ≤ 0 → last_place test l ≡ None
  unfolding last
  back_in_vain h =
      let m : n ≡ 0 = omega arith in
      sym b.is ∙ ap (last test) m

-- ---- by the place behind it, as `behind_last` of reading answers
module _ (test : ℕ → Bool) where
  last_is : (n p : ℕ) → p < n → test p ≡ true → ((k : ℕ) → p < k → k < n → test k ≡ false) → last test n ≡ Some p
  unfolding last
  last_is zero p h t none = absurd (omega arith)
  last_is (suc n) p h t none =
      by_test (ltb p n)
      (λ s. rw (none n (ltb-true p n s) (omega arith)) (last_is n p (ltb-true p n s) t (λ k a b. none k a (omega arith))))
      (λ s. let e : n ≡ p = omega (arith, ltb-false p n s) in rw (e, t))

  last_none : (n : ℕ) → ((k : ℕ) → k < n → test k ≡ false) → last test n ≡ None
  unfolding last
  last_none zero h = refl
  last_none (suc n) h = rw (h n (omega arith)) (last_none n (λ k g. h k (omega arith)))

pub found_last : {test : ℕ → Bool} {l : List ℕ} (r : ℕ) (o : Option ℕ) → Last test l r → SomeIff o (1 ≤ r) (r - 1) → o ≡ last_place test l
unfolding last_place
found_last {test} {l} r (Some p) d h =
    sym (last_is test (length l) p (omega (arith, d.passed.on, d.passed.within, h.0, h.1)) (ap test h.1 ∙ d.passes (omega (arith, h.0))) (λ k a b. d.passed.none k (omega (arith, h.0, h.1)) b))
found_last {test} {l} r None d h =
    let z : r ≤ 0 = by_test (ltb 0 r) (λ s. absurd (h (omega (arith, ltb-true 0 r s)))) (λ s. omega (arith, ltb-false 0 r s)) in
    sym (last_none test (length l) (λ k g. d.passed.none k (omega arith) g))

-- ---- where it lies
module _ (test : ℕ → Bool) where
  last_turn : (n p : ℕ) (b : Bool) → (last test n ≡ Some p → p < n) → cond b (Some n) (last test n) ≡ Some p → p < suc n
  last_turn n p true i e = omega (arith, at_same e)
  last_turn n p false i e = omega (arith, i e)

  last_below : (n p : ℕ) → last test n ≡ Some p → p < n
  unfolding last
  last_below zero p e = absurd (let z : ◌≡◌ {A = ℕ} 0 1 = cc in omega arith)
  last_below (suc n) p e = last_turn n p (test n) (last_below n p) e

pub last_inside : (test : ℕ → Bool) (l : List ℕ) (p : ℕ) → last_place test l ≡ Some p → p < length l
unfolding last_place
last_inside test l p e = last_below test (length l) p e

-- up to it is no further than the end
through_below : (n : ℕ) (p : Option ℕ) → ((q : ℕ) → p ≡ Some q → q < n) → through p ≤ n
unfolding through
through_below n (Some q) h = omega (arith, h q refl)
through_below n None h = omega arith

pub through_within : (test : ℕ → Bool) (l : List ℕ) → through (last_place test l) ≤ length l
through_within test l = through_below (length l) (last_place test l) (last_inside test l)

-- behind it none passes, and itself it does
module _ (test : ℕ → Bool) where
  behind_turn : (n p : ℕ) (b : Bool) → test n ≡ b → (through (last test n) ≤ p → p < n → test p ≡ false)
      → through (cond b (Some n) (last test n)) ≤ p → p < suc n → test p ≡ false
  unfolding through
  behind_turn n p true t i h g = absurd (omega arith)
  behind_turn n p false t i h g =
      by_test (ltb p n) (λ s. i h (ltb-true p n s)) (λ s. let e : p ≡ n = omega (arith, ltb-false p n s) in ap test e ∙ t)

  pub last_behind : (n p : ℕ) → through (last test n) ≤ p → p < n → test p ≡ false
  unfolding last
  last_behind zero p h g = absurd (omega arith)
  last_behind (suc n) p h g = behind_turn n p (test n) refl (last_behind n p) h g

  passes_turn : (n : ℕ) (b : Bool) → test n ≡ b → (0 < through (last test n) → test (through (last test n) - 1) ≡ true) → 0 < through (cond b (Some n) (last test n))
      → test (through (cond b (Some n) (last test n)) - 1) ≡ true
  unfolding through
  passes_turn n true t i h = let m : n + 1 - 1 ≡ n = omega arith in ap test m ∙ t
  passes_turn n false t i h = i h

  pub last_passes : (n : ℕ) → 0 < through (last test n) → test (through (last test n) - 1) ≡ true
  unfolding last through
  last_passes zero h = absurd (omega arith)
  last_passes (suc n) h = passes_turn n (test n) refl (last_passes n) h
