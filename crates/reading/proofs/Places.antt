-- The first place that passes a test: what one turn of a search shows of it, and what it says of the places before it.
-- Assumes nothing.
use mathlib.Core.Path.{◌≡◌, refl, sym, ap, ◌∙◌}
use mathlib.Core.Bool.{Bool, true, false, cond}
use mathlib.Core.List.{List}
use mathlib.Core.Logic.{◌≢◌}
use Prim.Native.Nat.{ℕ, zero, suc, ◌+◌, ◌-◌, ◌≤◌, ◌<◌}
use native.Mathlib.Omega.{arith}
use lib.Dec.{leb, ltb, eqb}
use lib.ListN.{length, get_or}
use borrow.Author.Tests.{leb-true, leb-false, ltb-true, ltb-false, eqb-true, eqb-false}
use Rattle.reading.specs.Bytes.{first, first_place, found}
use Rattle.std.proofs.lemmas.List.FromFn.{length-range_with_len, get_or-range_with_len}
use Rattle.std.specs.Bool.{MatchBool}
use Rattle.std.specs.List.{range_with_len, AllWithin, HoldsAt}
use Rattle.std.specs.Option.{MatchOption}
use Rattle.std.specs.Prelude.{Option, Some, None}

-- a fact by the cases of a test
pub by_test : {P : Type 0} (b : Bool) → (b ≡ true → P) → (b ≡ false → P) → P
by_test true yes' no' = yes' refl
by_test false yes' no' = no' refl

pub at_same : {p q : ℕ} → Some p ≡ Some q → p ≡ q
at_same e = cc

-- the numbers of a range, each at its own place
pub range_at : (n k : ℕ) → k < n → get_or (range_with_len 0 n) k 0 ≡ k
range_at n k h = get_or-range_with_len 0 n k 0 h ∙ let e : 0 + k ≡ k = omega arith in e

-- ---- a search that has come to p: the first place from p on is the first place
pub record Sought (test : ℕ → Bool) (l : List ℕ) (p : ℕ) : Type 0 where
  pub within : p ≤ length l
  pub is : first test p (length l - p) ≡ first_place test l

pub sought_none_yet : (test : ℕ → Bool) (l : List ℕ) → Sought test l 0
unfolding first_place
sought_none_yet test l =
    let n : length l - 0 ≡ length l = omega arith in
    record { within = omega arith; is = rw n }

module _ {test : ℕ → Bool} {l : List ℕ} {p : ℕ} (s : Sought test l p) where
  pub sought_here : p < length l → test p ≡ true → Some p ≡ first_place test l
  unfolding first
  sought_here h t =
      let n : length l - p ≡ suc (length l - (p + 1)) = omega arith in
      let e : first test p (length l - p) ≡ Some p = rw (n, t) in
      sym e ∙ s.is

  pub sought_on : p < length l → test p ≡ false → Sought test l (p + 1)
  unfolding first
  sought_on h t =
      let n : length l - p ≡ suc (length l - (p + 1)) = omega arith in
      let e : first test p (length l - p) ≡ first test (p + 1) (length l - (p + 1)) = rw (n, t) in
      record { within = omega arith; is = sym e ∙ s.is }

  pub sought_in_vain : length l ≤ p → None ≡ first_place test l
  unfolding first
  sought_in_vain h =
      let n : length l - p ≡ 0 = omega arith in
      let e : first test p (length l - p) ≡ None = rw n in
      sym e ∙ s.is

-- ---- what it says: q is the first of the n numbers from p on that passes
pub record IsFirst (test : ℕ → Bool) (p n q : ℕ) : Type 0 where
  pub from : p ≤ q
  pub inside : q < p + n
  pub passes : test q ≡ true
  pub none : (k : ℕ) → p ≤ k → k < q → test k ≡ false

module _ (test : ℕ → Bool) where
  first_is_turn : (p n q : ℕ) (b : Bool) → test p ≡ b → (b ≡ false → first test (p + 1) n ≡ Some q → IsFirst test (p + 1) n q)
      → cond b (Some p) (first test (p + 1) n) ≡ Some q → IsFirst test p (suc n) q
  first_is_turn p n q true t i e =
      let s : p ≡ q = at_same e in
      record { from = omega arith; inside = omega arith; passes = ap test (sym s) ∙ t; none = λ k h g. absurd (omega arith) }
  first_is_turn p n q false t i e =
      let r = i refl e in
      record {
        from = omega (arith, r.from);
        inside = omega (arith, r.inside);
        passes = r.passes;
        none = λ k h g. by_test (leb (p + 1) k) (λ a. r.none k (leb-true (p + 1) k a) g) (λ a. let s : k ≡ p = omega (arith, leb-false (p + 1) k a) in ap test s ∙ t);
      }

  pub first_is : (p n q : ℕ) → first test p n ≡ Some q → IsFirst test p n q
  unfolding first
  first_is p zero q e = absurd (let z : ◌≡◌ {A = ℕ} 0 1 = cc in omega arith)
  first_is p (suc n) q e = first_is_turn p n q (test p) refl (λ f g. first_is (p + 1) n q g) e

  first_at_turn : (p n q : ℕ) (b : Bool) → test p ≡ b → IsFirst test p (suc n) q → (IsFirst test (p + 1) n q → first test (p + 1) n ≡ Some q)
      → cond b (Some p) (first test (p + 1) n) ≡ Some q
  first_at_turn p n q true t f i =
      by_test (ltb p q)
      (λ a. absurd (let z : ◌≡◌ {A = Bool} true false = sym t ∙ f.none p (omega arith) (ltb-true p q a) in let y : ◌≡◌ {A = ℕ} 0 1 = cc in omega arith))
      (λ a. let s : p ≡ q = omega (arith, ltb-false p q a, f.from) in ap Some s)
  first_at_turn p n q false t f i =
      by_test (eqb p q)
      (λ a. absurd (let s : p ≡ q = eqb-true p q a in let z : ◌≡◌ {A = Bool} true false = sym f.passes ∙ ap test (sym s) ∙ t in let y : ◌≡◌ {A = ℕ} 0 1 = cc in omega arith))
      (λ a.
      let d : p < q = omega (arith, f.from, eqb-false p q a) in
      i (record { from = omega arith; inside = omega (arith, f.inside); passes = f.passes; none = λ k h g. f.none k (omega arith) g }))

  pub first_at : (p n q : ℕ) → IsFirst test p n q → first test p n ≡ Some q
  unfolding first
  first_at p zero q f = absurd (omega (arith, f.from, f.inside))
  first_at p (suc n) q f = first_at_turn p n q (test p) refl f (λ g. first_at (p + 1) n q g)

  pub first_none : (p n : ℕ) → ((k : ℕ) → p ≤ k → k < p + n → test k ≡ false) → first test p n ≡ None
  unfolding first
  first_none p zero h = refl
  first_none p (suc n) h = rw (h p (omega arith) (omega arith)) (first_none (p + 1) n (λ k l g. h k (omega arith) (omega arith)))

  found_turn : (b : Bool) (p k : ℕ) (o : Option ℕ) → test p ≡ b → test k ≡ true → (p ≢ k → found o ≡ true) → found (cond b (Some p) o) ≡ true
  unfolding found
  found_turn true p k o e t i = refl
  found_turn false p k o e t i = i (λ s. absurd (let z : ◌≡◌ {A = Bool} true false = sym t ∙ ap test (sym s) ∙ e in let y : ◌≡◌ {A = ℕ} 0 1 = cc in omega arith))

  first_found : (p n k : ℕ) → p ≤ k → k < p + n → test k ≡ true → found (first test p n) ≡ true
  unfolding first
  first_found p zero k h g t = absurd (omega arith)
  first_found p (suc n) k h g t = found_turn (test p) p k (first test (p + 1) n) refl t (λ d. first_found (p + 1) n k (omega (arith, d)) (omega arith) t)

  -- what `any` answers over the first n places
  pub any_is : (n : ℕ) (r : Bool)
      → MatchBool r ((k : ℕ) × (k < length (range_with_len 0 n)) × HoldsAt (λ p. test p ≡ true) (range_with_len 0 n) k)
      (AllWithin (λ p. test p ≡ false) (range_with_len 0 n) 0 (length (range_with_len 0 n)))
      → r ≡ found (first test 0 n)
  unfolding found
  any_is n true h =
      let k : h.0 < n = omega (arith, h.1, length-range_with_len 0 n) in
      sym (first_found 0 n h.0 (omega arith) (omega arith) (rw (range_at n h.0 k) at (h.2 0)))
  any_is n false h = rw (first_none 0 n (λ k l g. rw (range_at n k (omega arith)) at (h k 0 l (omega (arith, length-range_with_len 0 n)))))

  -- what `find` answers over the places from p on
  pub found_is : {s : List ℕ} {p : ℕ} (r : Option ℕ) → Sought test s p
      → MatchOption r ((k : ℕ) → p ≤ k → k < length s → test k ≡ false) (λ i. (p ≤ i) × (i < length s) × (test i ≡ true) × ((k : ℕ) → p ≤ k → k < i → test k ≡ false))
      → r ≡ first_place test s
  found_is {s} {p} (Some i) w h = sym (first_at p (length s - p) i (record { from = h.0; inside = omega arith; passes = h.2; none = h.3 })) ∙ w.is
  found_is {s} {p} None w h = sym (first_none p (length s - p) (λ k l g. h k l (omega (arith, w.within)))) ∙ w.is

-- ---- two tests that agree up to the first place that passes the one
pub first_moved : (test other : ℕ → Bool) (l m : List ℕ) (p : ℕ) → first_place test l ≡ Some p
    → ((k : ℕ) → k ≤ p → other k ≡ test k) → p < length m → first_place other m ≡ Some p
unfolding first_place
first_moved test other l m p e same h =
    let f = first_is test 0 (length l) p e in
    first_at other 0 (length m) p (record {
      from = f.from;
      inside = omega arith;
      passes = same p (omega arith) ∙ f.passes;
      none = λ k a b. same k (omega arith) ∙ f.none k a b;
    })

pub first_inside : (test : ℕ → Bool) (l : List ℕ) (p : ℕ) → first_place test l ≡ Some p → p < length l
unfolding first_place
first_inside test l p e = omega (arith, (first_is test 0 (length l) p e).inside)

pub first_passes : (test : ℕ → Bool) (l : List ℕ) (p : ℕ) → first_place test l ≡ Some p → test p ≡ true
unfolding first_place
first_passes test l p e = (first_is test 0 (length l) p e).passes
