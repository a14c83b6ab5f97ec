-- Searches that go on by many places at once: what a block without a place that passes shows, and what a search then has come to.
-- Assumes nothing.
use mathlib.Core.Path.{◌≡◌, refl, sym, ap, ◌∙◌}
use mathlib.Core.Bool.{Bool, true, false, cond, ◌&&◌, ◌||◌}
use mathlib.Core.List.{List, [], ◌∷◌}
use Prim.Native.Nat.{ℕ, zero, suc, ◌+◌, ◌-◌, ◌≤◌, ◌<◌}
use native.Mathlib.Nat.{add-zero}
use native.Mathlib.Numerals.{add-one}
use native.Mathlib.Omega.{arith}
use lib.Dec.{eqb, leb}
use lib.ListN.{length, take, drop, get_or, length-drop}
use lib.Seq.{get_or-take, get_or-drop, length-take-le}
use borrow.Author.Tests.{eqb-true, eqb-false, eq-eqb, leb-true, leb-false}
use Rattle.reading.specs.Blocks.{dashed, Passed, Next}
use Rattle.reading.specs.Bytes.{starts_with, ends_with, first, found, holds}
use Rattle.reading.specs.Reading.{dash, may_stand, delimits}
use Rattle.std.specs.Option.{unwrap_or}
use Rattle.std.specs.Prelude.{Option, Some, None}
use Rattle.reading.proofs.Ends.{opens_not, hyphens_not_first, may_stand_later}
use Rattle.reading.proofs.Places.{by_test, Sought, first_is, first_at, first_none}
use Rattle.reading.proofs.Words.{same_is}

module _ (test : ℕ → Bool) where
  -- ---- a block: whether one of the first i places passes
  found_if : (b : Bool) (p i : ℕ) → found (first test (p + 1) (suc i)) ≡ (found (first test (p + 1) i) || test (p + 1 + i)) → test p ≡ b
      → found (cond b (Some p) (first test (p + 1) (suc i))) ≡ (found (cond b (Some p) (first test (p + 1) i)) || test (p + 1 + i))
  unfolding found
  found_if true p i h e = refl
  found_if false p i h e = h

  found_suc : (p i : ℕ) → found (first test p (suc i)) ≡ (found (first test p i) || test (p + i))
  unfolding found first
  found_suc p zero = let z : p + 0 ≡ p = omega arith in rw z (only (test p))
    where
      only : (b : Bool) → found (cond b (Some p) None) ≡ b
      only true = refl
      only false = refl
  found_suc p (suc i) = let z : p + suc i ≡ p + 1 + i = omega arith in rw z (found_if (test p) p i (found_suc (p + 1) i) refl)

  pub found_more : (p i : ℕ) → found (first test p (i + 1)) ≡ (found (first test p i) || test (p + i))
  found_more p i = rw add-one (found_suc p i)

  none_if : (b : Bool) (p n : ℕ) → test p ≡ b → found (cond b (Some p) (first test (p + 1) n)) ≡ false
      → (found (first test (p + 1) n) ≡ false → (k : ℕ) → p + 1 ≤ k → k < p + 1 + n → test k ≡ false)
      → (k : ℕ) → p ≤ k → k < p + suc n → test k ≡ false
  unfolding found
  none_if true p n e h i k l g = absurd (let z : ◌≡◌ {A = ℕ} 0 1 = cc in omega arith)
  none_if false p n e h i k l g = by_test (eqb k p) (λ t. rw (eqb-true k p t) e) (λ f. i h k (omega (arith, eqb-false k p f)) (omega arith))

  none_found : (p n : ℕ) → found (first test p n) ≡ false → (k : ℕ) → p ≤ k → k < p + n → test k ≡ false
  unfolding first
  none_found p zero h k l g = absurd (omega arith)
  none_found p (suc n) h k l g = none_if (test p) p n refl h (none_found (p + 1) n) k l g

  -- ---- a search that has come from p to q
  module _ {s : List ℕ} {p : ℕ} where
    module _ {q : ℕ} (w : Passed test s p q) where
      pub passed_block : (n : ℕ) → q + n ≤ length s → found (first test q n) ≡ false → Passed test s p (q + n)
      passed_block n h f = record {
        on = omega (arith, w.on);
        within = h;
        none = λ k l g. by_test (leb q k) (λ t. none_found q n f k (leb-true q k t) g) (λ t. w.none k l (leb-false q k t));
      }

      pub passed_one : q < length s → test q ≡ false → Passed test s p (q + 1)
      passed_one h f = record {
        on = omega (arith, w.on);
        within = omega arith;
        none = λ k l g. by_test (eqb k q) (λ t. rw (eqb-true k q t) f) (λ t. w.none k l (omega (arith, eqb-false k q t)));
      }

      -- and the other way, back from q
      pub passed_block_back : (n : ℕ) → n ≤ p → found (first test (p - n) n) ≡ false → Passed test s (p - n) q
      passed_block_back n h f = record {
        on = omega (arith, w.on);
        within = w.within;
        none = λ k l g. by_test (leb p k) (λ t. w.none k (leb-true p k t) g) (λ t. none_found (p - n) n f k l (omega (arith, leb-false p k t)));
      }

      pub passed_one_back : 0 < p → test (p - 1) ≡ false → Passed test s (p - 1) q
      passed_one_back h f = record {
        on = omega (arith, w.on);
        within = w.within;
        none = λ k l g. by_test (eqb k (p - 1)) (λ t. rw (eqb-true k (p - 1) t) f) (λ t. w.none k (omega (arith, eqb-false k (p - 1) t)) g);
      }

      pub passed_on : {r : ℕ} → Passed test s q r → Passed test s p r
      passed_on v = record {
        on = omega (arith, w.on, v.on);
        within = v.within;
        none = λ k l g. by_test (leb q k) (λ t. v.none k (leb-true q k t) g) (λ t. w.none k l (leb-false q k t));
      }

  -- what is first from p on, where the search has come to q
  pub passed_here : {s : List ℕ} {p q : ℕ} → Passed test s p q → q < length s → test q ≡ true → Some q ≡ first test p (length s - p)
  passed_here {s} {p} {q} w h t = sym (first_at test p (length s - p) q (record { from = w.on; inside = omega (arith, w.on); passes = t; none = w.none }))

  pub passed_all : {s : List ℕ} {p q : ℕ} → Passed test s p q → p ≤ length s → length s ≤ q → None ≡ first test p (length s - p)
  passed_all {s} {p} {q} w g h = sym (first_none test p (length s - p) (λ k l m. w.none k l (omega arith)))

  pub next_is : {s : List ℕ} {p q : ℕ} (r : Option ℕ) → Passed test s p q → r ≡ first test q (length s - q) → Next test s p (unwrap_or r (length s))
  unfolding found
  next_is {s} {p} {q} (Some i) w e =
      let f = first_is test q (length s - q) i (sym e) in
      record {
        passed = passed_on w (record { on = f.from; within = omega (arith, f.inside, w.within); none = f.none });
        passes = λ h. f.passes;
      }
  next_is {s} {p} {q} None w e = record {
    passed = passed_on w (record { on = w.within; within = omega arith; none = λ k l h. none_found q (length s - q) (ap found (sym e)) k l (omega arith) });
    passes = λ h. absurd (omega arith);
  }

  -- the first place from p on is the first from there on
  first_past : (d p n : ℕ) → d ≤ n → ((k : ℕ) → p ≤ k → k < p + d → test k ≡ false) → first test p n ≡ first test (p + d) (n - d)
  unfolding first
  first_past zero p n h f = let z : n - 0 ≡ n = omega arith in rw (add-zero, z) refl
  first_past (suc d) p zero h f = absurd (omega arith)
  first_past (suc d) p (suc n) h f =
      let z : suc n - suc d ≡ n - d = omega arith in
      let y : p + suc d ≡ p + 1 + d = omega arith in
      rw (f p (omega arith) (omega arith), z, y) (first_past d (p + 1) n (omega arith) (λ k l g. f k (omega arith) (omega arith)))

  pub sought_passed : {s : List ℕ} {p q : ℕ} → Sought test s p → Passed test s p q → Sought test s q
  sought_passed {s} {p} {q} w v =
      let d : p + (q - p) ≡ q = omega (arith, v.on) in
      let n : length s - p - (q - p) ≡ length s - q = omega (arith, v.on) in
      record {
        within = v.within;
        is = rw (d, n) at (sym (first_past (q - p) p (length s - p) (omega (arith, v.within)) (λ k l g. v.none k l (omega (arith, v.on))))) ∙ w.is;
      }

-- ---- a delimiter behind the region's start has an LF before it and begins with a hyphen
crlf_last : (l : List ℕ) → ends_with (13 ∷ 10 ∷ []) l ≡ true → get_or l (length l - 1) 0 ≡ 10
unfolding ends_with
crlf_last l h =
    let e : drop (length l - 2) l ≡ 13 ∷ 10 ∷ [] = same_is (13 ∷ 10 ∷ []) (drop (length l - 2) l) h in
    let n : length l - 2 + 1 ≡ length l - 1 = omega (arith, ap length e, length-drop (length l - 2) l) in
    rw n at (sym (get_or-drop (length l - 2) l 1 0)) ∙ ap (λ (m : List ℕ). get_or m 1 0) e

lf_before : (s : List ℕ) (p : ℕ) → 0 < p → p ≤ length s → may_stand s p ≡ true → holds 10 s (p - 1) ≡ true
unfolding holds
lf_before s p h g m =
    let e = rw (may_stand_later s p (λ z. omega arith)) at m in
    let n : length (take p s) ≡ p = length-take-le p s g in
    eq-eqb (get_or s (p - 1) 0) 10 (sym (get_or-take p s (p - 1) 0 (omega arith)) ∙ rw n at (crlf_last (take p s) e))

and_false_of : (a b c d : Bool) → (a ≡ true → c ≡ true) → (b ≡ true → d ≡ true) → (c && d) ≡ false → (a && b) ≡ false
and_false_of true true c d f g h = absurd (let x = f refl in let y = g refl in let z : ◌≡◌ {A = ℕ} 0 1 = cc in omega arith)
and_false_of true false c d f g h = refl
and_false_of false b c d f g h = refl

hyphen_first : (s : List ℕ) (p : ℕ) → p < length s → starts_with (dash []) (drop p s) ≡ true → holds 45 s p ≡ true
unfolding holds
hyphen_first s p h e =
    by_test (eqb (get_or s p 0) 45)
    (λ t. t)
    (λ f. absurd (let x = hyphens_not_first s p h (eqb-false (get_or s p 0) 45 f) in let z : ◌≡◌ {A = ℕ} 0 1 = cc in omega arith))

dashless : (b s : List ℕ) (p : ℕ) → 0 < p → p < length s → dashed s p ≡ false → delimits b s p ≡ false
unfolding dashed
dashless b s p h g f =
    opens_not b s p
    (and_false_of (starts_with (dash []) (drop p s)) (may_stand s p) (holds 45 s p) (holds 10 s (p - 1)) (hyphen_first s p g) (lf_before s p h (omega arith)) f)

-- places without a hyphen behind an LF are passed by a search for a delimiter too
pub dashless_passed : (b s : List ℕ) {p q : ℕ} → 0 < p → Passed (dashed s) s p q → Passed (delimits b s) s p q
dashless_passed b s h w = record { on = w.on; within = w.within; none = λ k l g. dashless b s k (omega arith) (omega (arith, w.within)) (w.none k l g) }
