-- How lines end, and where delimiters may stand.
-- Assumes nothing.
use mathlib.Core.Path.{◌≡◌, refl, sym, ap, ◌∙◌}
use mathlib.Core.Bool.{Bool, true, false, cond, ◌&&◌, and-true, and-false}
use mathlib.Core.List.{List, [], ◌∷◌}
use Prim.Native.Nat.{ℕ, zero, suc, ◌+◌, ◌-◌, ◌≤◌, ◌<◌}
use native.Mathlib.Omega.{arith}
use lib.Dec.{eqb}
use lib.ListN.{length, take, drop, get_or, length-take, length-drop, drop_of_length-le}
use lib.Seq.{drop-drop, get_or-take, length-take-le, take-length, take-take}
use borrow.Author.Tests.{eq-eqb, ne_eqb}
use Rattle.reading.specs.Bytes.{starts_with, same, ends_with, stands}
use Rattle.reading.specs.Reading.{drop_end, clean, dash, may_stand, delimits}
use Rattle.reading.proofs.Words.{left_at, both_true, starts_append, starts_long}

pub ends_short : (w l : List ℕ) → length l < length w → false ≡ ends_with w l
unfolding ends_with same
ends_short w l h = rw (ne_eqb (length (drop (length l - length w) l)) (length w) (λ e. omega (arith, length-drop (length l - length w) l)))

-- ---- one byte at the end
ends_one : (b : ℕ) (l : List ℕ) (n : ℕ) → length l ≡ n + 1 → ends_with (b ∷ []) l ≡ eqb (get_or l n 0) b
unfolding ends_with same starts_with
ends_one b l n h =
    let e : length l - 1 ≡ n = omega arith in
    rw (e, left_at l n (omega arith), drop_of_length-le l (let g : length l ≤ n + 1 = omega arith in g), and-true)

-- CRLF at the end of the first p bytes
pub ends_crlf : (s : List ℕ) (p : ℕ) → 2 ≤ p → p ≤ length s → ends_with (13 ∷ 10 ∷ []) (take p s) ≡ (eqb (get_or s (p - 2) 0) 13 && eqb (get_or s (p - 1) 0) 10)
unfolding ends_with same starts_with
ends_crlf s p h g =
    let n : length (take p s) ≡ p = length-take-le p s g in
    let one : p - 2 + 1 ≡ p - 1 = omega arith in
    let all : p - 1 + 1 ≡ p = omega arith in
    rw (
      n,
      left_at (take p s) (p - 2) (omega (arith, n)),
      one,
      left_at (take p s) (p - 1) (omega (arith, n)),
      all,
      drop_of_length-le (take p s) (let m : length (take p s) ≤ p = omega (arith, n) in m),
      get_or-take p s (p - 2) 0 (omega arith),
      get_or-take p s (p - 1) 0 (omega arith),
      and-true,
    )

-- without it, of the first n bytes
pub drop_end_none : (b : ℕ) (l : List ℕ) (n : ℕ) → n ≡ 0 → 0 ≡ length (drop_end (b ∷ []) (take n l))
unfolding drop_end ends_with same
drop_end_none b l n h = rw h

last_one : (b : ℕ) (l : List ℕ) (n : ℕ) → 0 < n → n ≤ length l → ends_with (b ∷ []) (take n l) ≡ eqb (get_or l (n - 1) 0) b
last_one b l n h g =
    ends_one b (take n l) (n - 1) (omega (arith, length-take-le n l g))
    ∙ ap (λ (x : ℕ). eqb x b) (get_or-take n l (n - 1) 0 (omega arith))

pub drop_end_here : (b : ℕ) (l : List ℕ) (n : ℕ) → 0 < n → n ≤ length l → get_or l (n - 1) 0 ≡ b → n - 1 ≡ length (drop_end (b ∷ []) (take n l))
unfolding drop_end
drop_end_here b l n h g e =
    let a : length (take n l) ≡ n = length-take-le n l g in
    rw (last_one b l n h g, eq-eqb (get_or l (n - 1) 0) b e) (omega (arith, length-take (length (take n l) - 1) (take n l)))

pub drop_end_not : (b : ℕ) (l : List ℕ) (n : ℕ) → 0 < n → n ≤ length l → (get_or l (n - 1) 0 ≡ b → ⊥) → n ≡ length (drop_end (b ∷ []) (take n l))
unfolding drop_end
drop_end_not b l n h g e = rw (last_one b l n h g, ne_eqb (get_or l (n - 1) 0) b e) (sym (length-take-le n l g))

-- what is left is a beginning
take_back : (n : ℕ) (l : List ℕ) → take (length (take n l)) l ≡ take n l
take_back zero l = refl
take_back (suc n) [] = refl
take_back (suc n) (x ∷ l) = ap (λ (m : List ℕ). x ∷ m) (take_back n l)

drop_end_take_if : (t : Bool) (n : ℕ) (l : List ℕ) → take (length (cond t (take n l) l)) l ≡ cond t (take n l) l
drop_end_take_if true n l = take_back n l
drop_end_take_if false n l = take-length l

drop_end_take : (w l : List ℕ) → take (length (drop_end w l)) l ≡ drop_end w l
unfolding drop_end
drop_end_take w l = drop_end_take_if (ends_with w l) (length l - length w) l

drop_end_within_if : (t : Bool) (n : ℕ) (l : List ℕ) → length (cond t (take n l) l) ≤ length l
drop_end_within_if true n l = omega (arith, length-take n l)
drop_end_within_if false n l = omega arith

pub drop_end_within : (w l : List ℕ) → length (drop_end w l) ≤ length l
unfolding drop_end
drop_end_within w l = drop_end_within_if (ends_with w l) (length l - length w) l

-- a clean line is a beginning of the line
pub clean_within : (l : List ℕ) → length (clean l) ≤ length l
unfolding clean
clean_within l = omega (arith, drop_end_within (13 ∷ []) (drop_end (10 ∷ []) l), drop_end_within (10 ∷ []) l)

pub clean_take : (l : List ℕ) → take (length (clean l)) l ≡ clean l
unfolding clean
clean_take l =
    let m = drop_end (10 ∷ []) l in
    let n = length (drop_end (13 ∷ []) m) in
    sym (take-take n (length m) l (drop_end_within (13 ∷ []) m)) ∙ ap (take n) (drop_end_take (10 ∷ []) l) ∙ drop_end_take (13 ∷ []) m

-- the LF dropped from all, then a CR from what that leaves
pub clean_length : (l : List ℕ) (n m : ℕ) → n ≡ length (drop_end (10 ∷ []) (take (length l) l)) → m ≡ length (drop_end (13 ∷ []) (take n l)) → m ≡ length (clean l)
unfolding clean
clean_length l n m a b =
    let e : n ≡ length (drop_end (10 ∷ []) l) = a ∙ ap (λ (k : List ℕ). length (drop_end (10 ∷ []) k)) (take-length l) in
    b ∙ ap (λ (k : List ℕ). length (drop_end (13 ∷ []) k)) (ap (λ (i : ℕ). take i l) e ∙ drop_end_take (10 ∷ []) l)

-- ---- two hyphens at p
module _ (s : List ℕ) (p : ℕ) (h : p < length s) where
  pub hyphens_not_first : (get_or s p 0 ≡ 45 → ⊥) → starts_with (dash []) (drop p s) ≡ false
  unfolding starts_with
  hyphens_not_first n = rw (left_at s p h, ne_eqb (get_or s p 0) 45 n)

-- ---- where a delimiter may stand
pub may_stand_later : (s : List ℕ) (p : ℕ) → (p ≡ 0 → ⊥) → may_stand s p ≡ ends_with (13 ∷ 10 ∷ []) (take p s)
unfolding may_stand
may_stand_later s p n = rw (ne_eqb p 0 n)

swap : (a b c : Bool) → (a && (b && c)) ≡ ((b && a) && c)
swap true b c = ap (λ (x : Bool). x && c) (sym (and-true b))
swap false true c = refl
swap false false c = refl

pub delimits_is : (b s : List ℕ) (p : ℕ) → delimits b s p ≡ ((starts_with (dash []) (drop p s) && may_stand s p) && starts_with b (drop (p + 2) s))
unfolding delimits
delimits_is b s p =
    ap (λ (x : Bool). may_stand s p && x) (starts_append (dash []) b (drop p s) ∙ ap (λ (l : List ℕ). starts_with (dash []) (drop p s) && starts_with b l) (drop-drop 2 p s))
    ∙ swap (may_stand s p) (starts_with (dash []) (drop p s)) (starts_with b (drop (p + 2) s))

-- two hyphens stand at p, and p is a place for a delimiter
abbrev pub Opens : List ℕ → ℕ → Bool
Opens s p = starts_with (dash []) (drop p s) && may_stand s p

pub opens_not : (b s : List ℕ) (p : ℕ) → Opens s p ≡ false → delimits b s p ≡ false
opens_not b s p h = delimits_is b s p ∙ ap (λ (x : Bool). x && starts_with b (drop (p + 2) s)) h

-- so there is room for them
pub opens_room : (s : List ℕ) (p : ℕ) → Opens s p ≡ true → p + 2 ≤ length s
opens_room s p h = omega (arith, starts_long (dash []) (drop p s) (both_true (starts_with (dash []) (drop p s)) (may_stand s p) h).0, length-drop p s)

-- whether the boundary stands behind them decides
pub stands_then : (b s : List ℕ) (p : ℕ) → Opens s p ≡ true → stands b s (p + 2) ≡ true → delimits b s p ≡ true
unfolding stands
stands_then b s p h t = delimits_is b s p ∙ rw (h, t)

pub stands_not : (b s : List ℕ) (p : ℕ) → stands b s (p + 2) ≡ false → delimits b s p ≡ false
unfolding stands
stands_not b s p f = delimits_is b s p ∙ rw (f, and-false)
