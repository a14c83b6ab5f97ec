-- The class table's rule: a test of one entry, and what it shows.
-- Assumes nothing.
use mathlib.Core.Path.{◌≡◌, refl}
use mathlib.Core.Bool.{Bool, true, false, ◌&&◌}
use mathlib.Core.List.{List}
use Prim.Native.Nat.{ℕ, ◌<◌}
use lib.Dec.{T}
use lib.ListN.{length, get_or}
use Rattle.classes.specs.Classes.{Marked, has, is_white, is_blank, is_pop_white, is_digit, is_letter, is_upper}
use Rattle.classes.proofs.Table.{both, every, at}

unfoldable pub agree : Bool → Bool → Bool
agree true b = b
agree false true = false
agree false false = true

agreed : (a b : Bool) → T (agree a b) → a ≡ b
unfolding agree
agreed true true t = refl
agreed true false t = absurd t
agreed false true t = absurd t
agreed false false t = refl

-- the entry x is the set of byte k's marks
unfoldable pub right : ℕ → ℕ → Bool
right k x =
    agree (has 0 x) (is_white k)
    && (agree (has 1 x) (is_blank k)
    && (agree (has 2 x) (is_pop_white k)
    && (agree (has 3 x) (is_digit k)
    && (agree (has 4 x) (is_letter k)
    && agree (has 5 x) (is_upper k)))))

marked : (k x : ℕ) → T (right k x) → Marked k x
unfolding right
marked k x t0 =
    let t1 = both (agree (has 0 x) (is_white k)) _ t0 in
    let t2 = both (agree (has 1 x) (is_blank k)) _ t1.1 in
    let t3 = both (agree (has 2 x) (is_pop_white k)) _ t2.1 in
    let t4 = both (agree (has 3 x) (is_digit k)) _ t3.1 in
    let t5 = both (agree (has 4 x) (is_letter k)) (agree (has 5 x) (is_upper k)) t4.1 in
    record {
      white = agreed (has 0 x) _ t1.0;
      blank = agreed (has 1 x) _ t2.0;
      pop_white = agreed (has 2 x) _ t3.0;
      digit = agreed (has 3 x) _ t4.0;
      letter = agreed (has 4 x) _ t5.0;
      upper = agreed (has 5 x) _ t5.1;
    }

-- a table whose entries all pass the test has each byte's marks
pub rule : (xs : List ℕ) → T (every right 0 xs) → (b : ℕ) → b < length xs → Marked b (get_or xs b 0)
rule xs t b h = marked b (get_or xs b 0) (at right xs t b h)
