-- What the classes say of a byte's size.
-- Assumes nothing.
use mathlib.Core.Path.{◌≡◌}
use mathlib.Core.Bool.{false, and-false}
use Prim.Native.Nat.{ℕ, ◌<◌}
use native.Mathlib.Omega.{arith}
use lib.Dec.{leb, eqb}
use borrow.Author.Tests.{lt-leb, ne_eqb}
use Rattle.classes.specs.Classes.{is_white, is_blank, is_pop_white, is_digit, is_letter, is_upper}

-- what holds of every byte above 127
pub record Unmarked (b : ℕ) : Type 0 where
  pub white : is_white b ≡ false
  pub blank : is_blank b ≡ false
  pub pop_white : is_pop_white b ≡ false
  pub digit : is_digit b ≡ false
  pub letter : is_letter b ≡ false
  pub upper : is_upper b ≡ false

pub above_unmarked : (b : ℕ) → 127 < b → Unmarked b
unfolding is_white is_blank is_pop_white is_digit is_letter is_upper
above_unmarked b h =
    let past : (n : ℕ) → n < 128 → leb b n ≡ false = λ n l. lt-leb b n (omega arith) in
    let other : (n : ℕ) → n < 128 → eqb b n ≡ false = λ n l. ne_eqb b n (λ e. omega arith) in
    record {
      white = rw (past 13 (omega arith), and-false, other 32 (omega arith));
      blank = rw (other 9 (omega arith), other 32 (omega arith));
      pop_white = rw (other 9 (omega arith), other 10 (omega arith), other 13 (omega arith), other 32 (omega arith));
      digit = rw (past 57 (omega arith), and-false);
      letter = rw (past 90 (omega arith), past 122 (omega arith), and-false (leb 65 b), and-false (leb 97 b));
      upper = rw (past 90 (omega arith), and-false);
    }
