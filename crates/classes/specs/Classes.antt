-- The classes of bytes, in the words of document 01, 'Reading'.
-- Assumes nothing.
use Rattle.std.specs.Prelude.{ℕ, ◌-◌, ◌^◌, ◌≡◌, Bool, cond, not, ◌&&◌, ◌||◌, leb, eqb}
use Rattle.std.specs.Int.Bits.{bit_and}

abbrev between : ℕ → ℕ → ℕ → Bool
between first last b = leb first b && leb b last

-- white space: 9 to 13 and 32
unfoldable pub is_white : ℕ → Bool
is_white b = between 9 13 b || eqb b 32

-- blank: 9, 32
unfoldable pub is_blank : ℕ → Bool
is_blank b = eqb b 9 || eqb b 32

-- pop white: 9, 10, 13, 32
unfoldable pub is_pop_white : ℕ → Bool
is_pop_white b = eqb b 9 || (eqb b 10 || (eqb b 13 || eqb b 32))

-- 0 to 9
unfoldable pub is_digit : ℕ → Bool
is_digit b = between 48 57 b

-- A to Z and a to z
unfoldable pub is_letter : ℕ → Bool
is_letter b = between 65 90 b || between 97 122 b

-- A to Z
unfoldable pub is_upper : ℕ → Bool
is_upper b = between 65 90 b

-- a letter's upper case; any other byte unchanged
unfoldable pub upper_of : ℕ → ℕ
upper_of b = cond (is_letter b && not (is_upper b)) (b - 32) b

-- mark k is in the set x
abbrev pub has : ℕ → ℕ → Bool
has k x = not (eqb (bit_and x (2 ^ k)) 0)

-- x is the set of the byte b's marks
pub record Marked (b x : ℕ) : Type 0 where
  pub white : has 0 x ≡ is_white b
  pub blank : has 1 x ≡ is_blank b
  pub pop_white : has 2 x ≡ is_pop_white b
  pub digit : has 3 x ≡ is_digit b
  pub letter : has 4 x ≡ is_letter b
  pub upper : has 5 x ≡ is_upper b
