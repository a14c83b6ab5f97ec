-- What the library's methods on slices and ranges answer, in the words of specs/.
-- Assumes nothing.
use mathlib.Core.Path.{◌≡◌, refl, sym, ap, ◌∙◌}
use mathlib.Core.Bool.{Bool, true, false, ◌&&◌}
use mathlib.Core.List.{List, [], ◌∷◌, map}
use Prim.Native.Nat.{ℕ, suc, ◌+◌, ◌-◌, ◌≤◌, ◌<◌}
use native.Mathlib.Omega.{arith}
use denote.Bor.{Bor}
use lib.Dec.{eqb, leb}
use lib.ListN.{length, take, drop, length-take}
use lib.Pointwise.{pointwise}
use borrow.Author.Tests.{eq-eqb, ne_eqb, lt-leb}
use Rattle.std.proofs.lemmas.Bool.Decides.{nat_tests, same_from_decides}
use Rattle.std.proofs.lemmas.List.{take-map}
use Rattle.std.proofs.lemmas.Slice.Eq.{bytes_eq-Decides}
use Rattle.std.specs.Bool.{Decides}
use Rattle.std.specs.Char.{to_ascii_lowercase}
use Rattle.std.specs.Option.{MatchOption, unwrap_or}
use Rattle.std.specs.Prelude.{Option, Some, None}
use Rattle.classes.specs.Classes.{upper_of, is_letter, is_upper}
use Rattle.reading.specs.Bytes.{starts_with, same, ends_with, raised}
use Rattle.reading.specs.Reading.{drop_end}
use Rattle.reading.proofs.Places.{by_test}
use Rattle.reading.proofs.Words.{same_is, starts_take, starts_long, raised_length, raised_long}

eqb_sym : (a b : ℕ) → eqb a b ≡ eqb b a
eqb_sym a b = grind (arith, nat_tests)

eqb_suc : (a b : ℕ) → eqb (suc a) (suc b) ≡ eqb a b
eqb_suc a b = grind (arith, nat_tests)

-- ---- `==`, `starts_with`, `ends_with` and `strip_suffix`
pub equals_is : (w l : List ℕ) → pointwise eqb l w ≡ same w l
unfolding same starts_with
equals_is [] [] = refl
equals_is (x ∷ w) [] = rw (ne_eqb 0 (length (x ∷ w)) (λ e. omega arith))
equals_is [] (y ∷ l) = rw (ne_eqb (length (y ∷ l)) 0 (λ e. omega arith))
equals_is (x ∷ w) (y ∷ l) =
    rw (eqb_suc (length l) (length w))
    (ap (λ (b : Bool). eqb y x && b) (equals_is w l) ∙ swap (eqb y x) (eqb (length l) (length w)) (starts_with w l))
  where
    swap : (a b c : Bool) → (a && (b && c)) ≡ (b && (a && c))
    swap true b c = refl
    swap false true c = refl
    swap false false c = refl

turned : (w l : List ℕ) → pointwise eqb w l ≡ pointwise eqb l w
turned [] [] = refl
turned (x ∷ w) [] = refl
turned [] (y ∷ l) = refl
turned (x ∷ w) (y ∷ l) = rw (eqb_sym x y, turned w l)

pub opens_is : (w l : List ℕ) → pointwise eqb w (take (length w) l) ≡ starts_with w l
unfolding starts_with
opens_is [] l = refl
opens_is (x ∷ w) [] = refl
opens_is (x ∷ w) (y ∷ l) = rw (eqb_sym x y, opens_is w l)

pub prefix_is : (w l : List ℕ) → pointwise eqb (take (length w) l) w ≡ starts_with w l
prefix_is w l = sym (turned w (take (length w) l)) ∙ opens_is w l

pub short_not : (w l : List ℕ) → length l < length w → leb (length w) (length l) ≡ starts_with w l
short_not w l h = rw (lt-leb (length w) (length l) h) (by_test (starts_with w l) (λ t. absurd (omega (arith, starts_long w l t))) sym)

pub closes_is : (w l : List ℕ) → pointwise eqb w (drop (length l - length w) l) ≡ ends_with w l
unfolding ends_with
closes_is w l = turned w (drop (length l - length w) l) ∙ equals_is w (drop (length l - length w) l)

pub stripped_is : (w : List ℕ) (l : Bor (List ℕ)) (r : Option (Bor (List ℕ)))
    → MatchOption r (pointwise eqb (drop (length l.now - length w) l.now) w ≡ false)
    (λ x. (pointwise eqb (drop (length l.now - length w) l.now) w ≡ true)
    × (x.now ≡ take (length l.now - length w) l.now)
    × (length x.now + length w ≡ length l.now))
    → (unwrap_or r l).now ≡ drop_end w l.now
unfolding drop_end ends_with
stripped_is w l (Some x) h = rw (sym (equals_is w (drop (length l.now - length w) l.now)), h.0) h.1
stripped_is w l None h = rw (sym (equals_is w (drop (length l.now - length w) l.now)), h)

-- ---- `eq_ignore_ascii_case`: what is equal in lower case is so in upper case
raised_byte : (x y : ℕ) → to_ascii_lowercase x ≡ to_ascii_lowercase y → upper_of x ≡ upper_of y
unfolding upper_of is_letter is_upper
raised_byte x y e = grind (arith, nat_tests)

lowered_byte : (x y : ℕ) → upper_of x ≡ upper_of y → to_ascii_lowercase x ≡ to_ascii_lowercase y
unfolding upper_of is_letter is_upper
lowered_byte x y e = grind (arith, nat_tests)

other_case : (f g : ℕ → ℕ) → ((x y : ℕ) → f x ≡ f y → g x ≡ g y) → (l w : List ℕ) → map f l ≡ map f w → map g l ≡ map g w
other_case f g h [] [] e = refl
other_case f g h (x ∷ l) [] e = cc
other_case f g h [] (y ∷ w) e = cc
other_case f g h (x ∷ l) (y ∷ w) e = let t : map f l ≡ map f w = cc in
    let s : f x ≡ f y = cc in
    cc (h x y s, other_case f g h l w t)

pub alike_is : (w l : List ℕ) (r : Bool) → Decides r (map to_ascii_lowercase l ≡ map to_ascii_lowercase w) → r ≡ same (raised w) (raised l)
unfolding raised
alike_is w l r h = same_from_decides r (same (raised w) (raised l)) h (
  λ t. other_case upper_of to_ascii_lowercase lowered_byte l w (same_is (raised w) (raised l) t),
  λ e. let s = other_case to_ascii_lowercase upper_of raised_byte l w e in sym (equals_is (raised w) (raised l)) ∙ (bytes_eq-Decides (raised l) (raised w)).1 s,
)

pub opens_alike : (w l : List ℕ) → length w ≤ length l → same (raised w) (raised (take (length w) l)) ≡ starts_with (raised w) (raised l)
unfolding same raised
opens_alike w l h =
    let n : length (raised (take (length w) l)) ≡ length (raised w) = omega (arith, raised_length (take (length w) l), raised_length w, length-take (length w) l) in
    rw (eq-eqb (length (raised (take (length w) l))) (length (raised w)) n, ← take-map upper_of (length w) l)
    (starts_take (raised w) (raised l) (length w) (omega (arith, raised_length w)))

pub short_alike : (w l : List ℕ) → length l < length w → leb (length w) (length l) ≡ starts_with (raised w) (raised l)
short_alike w l h = rw (lt-leb (length w) (length l) h) (by_test (starts_with (raised w) (raised l)) (λ t. absurd (omega (arith, raised_long w l t))) sym)
