-- The digits that `io::decimal` writes are those of the definition, and how long a line can be.
-- Assumes nothing.
use mathlib.Core.Path.{◌≡◌, ◌∙◌}
use mathlib.Core.List.{List, [], ◌∷◌}
use Prim.Native.Nat.{ℕ, zero, suc, ◌+◌, ◌*◌, ◌-◌, ◌/◌, ◌%◌, ◌^◌, ◌≤◌, ◌<◌}
use native.Mathlib.Nat.{pow-suc, pow-le-pow_right, mod-eq_of_lt}
use native.Mathlib.Omega.{arith}
use lib.Dec.{ltb}
use lib.ListN.{length, take, set, length-append}
use lib.Seq.{length-take-le}
use borrow.Author.Tests.{lt-ltb, le-ltb, ltb-true, ltb-false}
use Rattle.io.specs.Digits.{hex_digit_ascii, last_digits, IsDigitCount}
use Rattle.reading.proofs.Places.{by_test}
use Rattle.listing.specs.Listing.{Pasted, spelled, word}
use Rattle.listing.proofs.Pasted.{pasted_length, pasted_on, pasted_one}

-- a digit below ten
glyph_is : (d : ℕ) → d < 10 → hex_digit_ascii d ≡ 48 + d
glyph_is d h = rw (lt-ltb d 10 h)

above : (n j : ℕ) → IsDigitCount 10 1 n (suc (suc j)) → 10 ^ j * 10 ≤ n
above n j w = let e : suc (suc j) - 1 ≡ suc j = omega arith in rw (e, pow-suc 10 j) at (w.2 (omega arith))

fewer : (n j : ℕ) → IsDigitCount 10 1 n (suc (suc j)) → IsDigitCount 10 1 (n / 10) (suc j)
fewer n j w =
    let below : n < 10 ^ suc j * 10 = rw (pow-suc 10 (suc j)) at w.1 in
    (omega arith, omega arith, (λ h. let e : suc j - 1 ≡ j = omega arith in rw e (omega (arith, above n j w))))

spells : (k most n : ℕ) → k ≤ most → IsDigitCount 10 1 n k → last_digits 10 k n ≡ spelled most n
unfolding spelled
spells zero most n h w = absurd (omega (arith, w.0))
spells (suc k) zero n h w = absurd (omega arith)
spells (suc zero) (suc most) n h w =
    let small : n < 10 = omega (arith, w.1) in
    rw (lt-ltb n 10 small, mod-eq_of_lt small, glyph_is n small)
spells (suc (suc j)) (suc most) n h w =
    let large : 10 ≤ n = omega (arith, above n j w, pow-le-pow_right {n = 10} (omega arith) {i = 0} {j = j} (omega arith)) in
    rw (le-ltb n 10 large, spells (suc j) most (n / 10) (omega arith) (fewer n j w), glyph_is (n % 10) (omega arith))

spelled_length : (most n : ℕ) → length (spelled most n) ≤ most
unfolding spelled
spelled_length zero n = omega arith
spelled_length (suc most) n = by_test (ltb n 10) (λ t. rw t (omega arith))
    (λ f. rw f (omega (arith, length-append (spelled most (n / 10)) ((48 + n % 10) ∷ []), spelled_length most (n / 10))))

pub word_length : (n behind : ℕ) → length (word n behind) ≤ 21
unfolding word
word_length n behind = omega (arith, length-append (spelled 20 n) (behind ∷ []), spelled_length 20 n)

-- a number of 64 bits has at most twenty digits
few : (n k : ℕ) → n < 18446744073709551616 → IsDigitCount 10 1 n k → k ≤ 20
few n k h w =
    by_test (ltb 20 k)
    (λ t. let large : 20 ≤ k - 1 = omega (arith, ltb-true 20 k t) in
    let big : 100000000000000000000 ≤ 10 ^ (k - 1) = pow-le-pow_right {n = 10} (omega arith) large in
    absurd (omega (arith, w.2 (omega (arith, ltb-true 20 k t)))))
    (λ f. ltb-false 20 k f)

-- k bytes of d are the digits of a number of 64 bits, and o has room behind `at` for them and a byte
pub record Spelt (o : List ℕ) (at n k : ℕ) (d : List ℕ) : Type 0 where
  pub room : at + 21 ≤ length o
  pub small : n < 18446744073709551616
  pub within : k ≤ length d
  pub fewest : IsDigitCount 10 1 n k
  pub is : take k d ≡ last_digits 10 k n

-- they are put, and a byte behind them
module _ {o d : List ℕ} {at n k : ℕ} (w : Spelt o at n k d) where
  pub digits_room : at + length (take k d) < length o
  digits_room = omega (arith, w.room, length-take-le k d w.within, few n k w.small w.fewest)

  module _ {u : List ℕ} {r : ℕ} (p : Pasted o at (take k d) r u) where
    pub word_end : r < length u
    word_end = omega (arith, digits_room, pasted_length p (omega (arith, digits_room)), p.end)

    pub word_put : (b : ℕ) → Pasted o at (word n b) (r + 1) (set u r b)
    unfolding word
    word_put b = rw (w.is ∙ spells k 20 n (few n k w.small w.fewest) w.fewest) at (pasted_on p (omega (arith, w.room)) (pasted_one u r b word_end))
