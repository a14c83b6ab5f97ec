-- Words: what a word that stands somewhere says of the bytes there.
-- Assumes nothing.
use mathlib.Core.Path.{◌≡◌, refl, sym, ap, ◌∙◌}
use mathlib.Core.Bool.{Bool, true, false, ◌&&◌, and_assoc, and-false}
use mathlib.Core.List.{List, [], ◌∷◌, ◌++◌, append-nil}
use Prim.Native.Nat.{ℕ, zero, suc, ◌+◌, ◌-◌, ◌≤◌, ◌<◌}
use native.Mathlib.Numerals.{add-one}
use native.Mathlib.Omega.{arith}
use lib.Dec.{eqb}
use lib.ListN.{length, take, drop, get_or, drop_of_length-le, length-drop, length-map}
use lib.Seq.{drop-cons, take_all}
use borrow.Author.Tests.{eqb-true, eq-eqb, ne_eqb}
use Rattle.std.proofs.lemmas.List.FromFn.{length-range_with_len}
use Rattle.std.specs.Bool.{MatchBool}
use Rattle.std.specs.List.{range_with_len, AllWithin, HoldsAt}
use Rattle.classes.specs.Classes.{upper_of}
use Rattle.reading.proofs.Places.{range_at}
use Rattle.reading.specs.Bytes.{starts_with, same, raised}

-- what is left at i is the byte at i and what is left at i + 1
pub left_at : (s : List ℕ) (i : ℕ) → i < length s → drop i s ≡ get_or s i 0 ∷ drop (i + 1) s
left_at s i h = rw (add-one, drop-cons s i 0)

-- a part that runs to the end, as the code's parts are written
pub rest_is : (s : List ℕ) (i : ℕ) → take (length s - i) (drop i s) ≡ drop i s
rest_is s i = take_all (length s - i) (drop i s) (omega (arith, length-drop i s))

pub both_true : (a b : Bool) → (a && b) ≡ true → (a ≡ true) × (b ≡ true)
both_true true b e = (refl, e)
both_true false b e = (cc, cc)

-- ---- a word is told by as many bytes as it has
pub starts_take : (w l : List ℕ) (n : ℕ) → length w ≤ n → starts_with w (take n l) ≡ starts_with w l
unfolding starts_with
starts_take [] l n h = refl
starts_take (x ∷ w) [] zero h = refl
starts_take (x ∷ w) [] (suc n) h = refl
starts_take (x ∷ w) (y ∷ l) zero h = absurd (omega arith)
starts_take (x ∷ w) (y ∷ l) (suc n) h = ap (λ (b : Bool). eqb y x && b) (starts_take w l n (omega arith))

pub starts_long : (w l : List ℕ) → starts_with w l ≡ true → length w ≤ length l
unfolding starts_with
starts_long [] l e = omega arith
starts_long (x ∷ w) [] e = absurd (let z : ◌≡◌ {A = ℕ} 0 1 = cc in omega arith)
starts_long (x ∷ w) (y ∷ l) e = omega (arith, starts_long w l (both_true (eqb y x) (starts_with w l) e).1)

-- what opens with w is w and what is behind it
pub starts_is : (w l : List ℕ) → starts_with w l ≡ true → l ≡ w ++ drop (length w) l
unfolding starts_with
starts_is [] l e = refl
starts_is (x ∷ w) [] e = cc
starts_is (x ∷ w) (y ∷ l) e =
    let t = both_true (eqb y x) (starts_with w l) e in
    cc (eqb-true y x t.0, starts_is w l t.1)

-- a word made of two
pub same_is : (w l : List ℕ) → same w l ≡ true → l ≡ w
unfolding same
same_is w l h =
    let b = both_true (eqb (length l) (length w)) (starts_with w l) h in
    let n : length l ≡ length w = eqb-true (length l) (length w) b.0 in
    starts_is w l b.1 ∙ ap (λ (r : List ℕ). w ++ r) (drop_of_length-le l (let m : length l ≤ length w = omega arith in m)) ∙ append-nil w

pub starts_append : (v w l : List ℕ) → starts_with (v ++ w) l ≡ (starts_with v l && starts_with w (drop (length v) l))
unfolding starts_with
starts_append [] w l = refl
starts_append (x ∷ v) w [] = refl
starts_append (x ∷ v) w (y ∷ l) = ap (λ (b : Bool). eqb y x && b) (starts_append v w l) ∙ sym (and_assoc (eqb y x) (starts_with v l) (starts_with w (drop (length v) l)))

-- ---- upper case
pub raised_length : (l : List ℕ) → length (raised l) ≡ length l
unfolding raised
raised_length l = length-map l upper_of

raised_drop : (l : List ℕ) (k : ℕ) → drop k (raised l) ≡ raised (drop k l)
unfolding raised
raised_drop l zero = refl
raised_drop [] (suc k) = refl
raised_drop (x ∷ l) (suc k) = raised_drop l k

pub raised_long : (w l : List ℕ) → starts_with (raised w) (raised l) ≡ true → length w ≤ length l
raised_long w l e = omega (arith, starts_long (raised w) (raised l) e, raised_length w, raised_length l)

pub raised_rest : (w l : List ℕ) (p : ℕ) → starts_with w (drop p (raised l)) ≡ starts_with w (raised (take (length l - p) (drop p l)))
raised_rest w l p = ap (starts_with w) (raised_drop l p ∙ ap raised (sym (rest_is l p)))

-- what is compared byte by byte, as many as w has
pub opens_raised : (w l : List ℕ) → length w ≤ length l → ((k : ℕ) → k < length w → upper_of (get_or l k 0) ≡ upper_of (get_or w k 0)) → starts_with (raised w) (raised l) ≡ true
unfolding starts_with raised
opens_raised [] l n h = refl
opens_raised (x ∷ w) [] n h = absurd (omega arith)
opens_raised (x ∷ w) (y ∷ l) n h = rw (eq-eqb (upper_of y) (upper_of x) (h 0 (omega arith))) (opens_raised w l (omega arith) (λ k g. h (suc k) (omega arith)))

pub differs_raised : (w l : List ℕ) (k : ℕ) → k < length w → length w ≤ length l → (upper_of (get_or l k 0) ≡ upper_of (get_or w k 0) → ⊥) → starts_with (raised w) (raised l) ≡ false
unfolding starts_with raised
differs_raised [] l k g n h = absurd (omega arith)
differs_raised (x ∷ w) [] k g n h = absurd (omega arith)
differs_raised (x ∷ w) (y ∷ l) zero g n h = rw (ne_eqb (upper_of y) (upper_of x) h)
differs_raised (x ∷ w) (y ∷ l) (suc k) g n h = rw (differs_raised w l k (omega arith) (omega arith) h, and-false)

-- what `all` answers over the places of w
pub all_alike : (w l : List ℕ) (r : Bool) → length w ≤ length l
    → MatchBool r (AllWithin (λ k. upper_of (get_or l k 0) ≡ upper_of (get_or w k 0)) (range_with_len 0 (length w)) 0 (length (range_with_len 0 (length w))))
    ((k : ℕ) × (k < length (range_with_len 0 (length w))) × HoldsAt (λ k. upper_of (get_or l k 0) ≡ upper_of (get_or w k 0) → ⊥) (range_with_len 0 (length w)) k)
    → r ≡ starts_with (raised w) (raised l)
all_alike w l true n h = sym (opens_raised w l n (λ k g. rw (range_at (length w) k g) at (h k 0 (omega arith) (omega (arith, length-range_with_len 0 (length w))))))
all_alike w l false n (k, g, h) =
    let b : k < length w = omega (arith, length-range_with_len 0 (length w)) in
    sym (differs_raised w l k b n (rw (range_at (length w) k b) at (h 0)))
