-- What digits are worth, added up to the place i without going past max.
-- Assumes nothing.
use mathlib.Core.Path.{◌≡◌, refl, sym, ◌∙◌}
use mathlib.Core.Bool.{Bool, true, false, cond}
use mathlib.Core.List.{List, [], ◌∷◌}
use Prim.Native.Nat.{ℕ, ◌+◌, ◌*◌, ◌-◌, ◌/◌, ◌≤◌, ◌<◌}
use native.Mathlib.Omega.{arith}
use lib.Dec.{leb, ltb}
use lib.ListN.{length, drop, get_or, drop_of_length-le}
use borrow.Author.Tests.{le-leb, lt-leb, lt-ltb, le-ltb, leb-true, leb-false}
use Rattle.reading.proofs.Places.{by_test}
use Rattle.reading.proofs.Words.{left_at}
use Rattle.fields.specs.Runs.{worth_behind, worth, up_to}
use Rattle.std.specs.Option.{unwrap_or}
use Rattle.std.specs.Prelude.{Some, None}

-- further digits never make it less
pub worth_grows : (n : ℕ) (l : List ℕ) → n ≤ worth_behind n l
unfolding worth_behind
worth_grows n [] = omega arith
worth_grows n (d ∷ l) = omega (arith, worth_grows (n * 10 + (d - 48)) l)

pub record Added (max : ℕ) (l : List ℕ) (n i : ℕ) : Type 0 where
  pub low : n ≤ max
  pub within : i ≤ length l
  pub is : worth_behind n (drop i l) ≡ worth l

pub added_none_yet : (max : ℕ) (l : List ℕ) → Added max l 0 0
unfolding worth
added_none_yet max l = record { low = omega arith; within = omega arith; is = refl }

module _ {max : ℕ} {l : List ℕ} {n i : ℕ} (a : Added max l n i) where
  added_turn : i < length l → {d : ℕ} → d ≡ get_or l i 0 - 48 → worth_behind (n * 10 + d) (drop (i + 1) l) ≡ worth l
  unfolding worth_behind
  added_turn h e =
      let t : worth_behind n (drop i l) ≡ worth_behind (n * 10 + (get_or l i 0 - 48)) (drop (i + 1) l) = rw (left_at l i h) in
      rw e (sym t ∙ a.is)

  pub added_on : i < length l → {d : ℕ} → d ≡ get_or l i 0 - 48 → d ≤ max → n ≤ (max - d) / 10 → Added max l (n * 10 + d) (i + 1)
  added_on h e f g = record { low = omega arith; within = omega arith; is = added_turn h e }

  pub added_over : i < length l → {d : ℕ} → d ≡ get_or l i 0 - 48 → max < n * 10 + d → None ≡ up_to max (worth l)
  unfolding up_to
  added_over h {d} e f =
      let t : max < worth l = rw (added_turn h e) at (let w : max < worth_behind (n * 10 + d) (drop (i + 1) l) = omega (arith, worth_grows (n * 10 + d) (drop (i + 1) l)) in w) in
      rw (lt-leb (worth l) max t)

  pub added_all : length l ≤ i → Some n ≡ up_to max (worth l)
  unfolding up_to worth_behind
  added_all h =
      let t : n ≡ worth l = rw (drop_of_length-le l h) at a.is in
      rw (← t, le-leb n max a.low)

-- ---- what the answer says
below_is : (n max : ℕ) → ltb n (max + 1) ≡ leb n max
below_is n max =
    by_test (leb n max)
    (λ t. lt-ltb n (max + 1) (omega (arith, leb-true n max t)) ∙ sym t)
    (λ f. le-ltb n (max + 1) (omega (arith, leb-false n max f)) ∙ sym f)

-- the number if it is below max + 1, otherwise 0
pub worth_or_zero : (max n : ℕ) → unwrap_or (up_to max n) 0 ≡ cond (ltb n (max + 1)) n 0
unfolding up_to
worth_or_zero max n = rw (below_is n max) (either (leb n max))
  where
    either : (t : Bool) → unwrap_or (cond t (Some n) None) 0 ≡ cond t n 0
    either true = refl
    either false = refl

-- ---- what the answer says
worth_if : (t : Bool) (n : ℕ) {m : ℕ} → cond t (Some n) None ≡ Some m → t ≡ true
worth_if true n e = refl
worth_if false n e = cc

too_big_if : (t : Bool) (n : ℕ) → cond t (Some n) None ≡ None → t ≡ false
too_big_if true n e = cc
too_big_if false n e = refl

module _ (max n : ℕ) where
  pub worth_low : {m : ℕ} → up_to max n ≡ Some m → leb n max ≡ true
  unfolding up_to
  worth_low e = worth_if (leb n max) n e

  pub too_big : up_to max n ≡ None → leb n max ≡ false
  unfolding up_to
  too_big e = too_big_if (leb n max) n e
