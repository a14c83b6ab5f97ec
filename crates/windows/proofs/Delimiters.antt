-- A word as a mark; and the delimiter of document 01, which is read up to such a mark.
-- Assumes nothing.
use mathlib.Core.Path.{◌≡◌, refl, sym, ap, ◌∙◌}
use mathlib.Core.Bool.{Bool, true, false, cond, ◌&&◌, ◌||◌}
use mathlib.Core.List.{List, ◌++◌}
use Prim.Native.Nat.{ℕ, zero, suc, ◌+◌, ◌-◌, ◌<◌}
use native.Mathlib.Omega.{arith}
use lib.Dec.{eqb, leb}
use lib.ListN.{length, take, drop, get_or, length-take, length-drop, get_or-append}
use lib.Seq.{take_at, get_or-take, get_or-drop}
use borrow.Author.Tests.{eq-eqb, leb-true, leb-false}
use Rattle.reading.proofs.Places.{by_test}
use Rattle.reading.proofs.Words.{starts_long, starts_is, starts_take}
use Rattle.reading.specs.Bytes.{starts_with, ends_with, first, first_place}
use Rattle.reading.specs.Reading.{crlf, dash, may_stand, delimits, a_line, delimiter, past, reach, got, parted, fetch}
use Rattle.std.specs.Prelude.{Option, Some, None}
use Rattle.windows.proofs.Marks.{Marks, Told, stands_at, first_end, up_to, lined}
use Rattle.windows.specs.Pieces.{word, or_else, standing}

-- ---- a word
module _ (w : List ℕ) where
  word_at : (s : List ℕ) (n : ℕ) → word w s ≡ Some n → (starts_with w s ≡ true) × (length w ≡ n)
  unfolding word
  word_at s n e = by_start (starts_with w s) e
    where
      by_start : (b : Bool) → cond b (Some (length w)) None ≡ Some n → (b ≡ true) × (length w ≡ n)
      by_start true h = (refl, cc)
      by_start false h = absurd (let z : ◌≡◌ {A = ℕ} 0 1 = cc in omega arith)

  word_is : (s : List ℕ) (n : ℕ) → starts_with w s ≡ true → length w ≡ n → word w s ≡ Some n
  unfolding word
  word_is s n h e = rw (h, e)

  starts_more : (s t : List ℕ) → starts_with w s ≡ true → starts_with w (s ++ t) ≡ true
  starts_more s t h = sym (starts_take w (s ++ t) (length s) (starts_long w s h)) ∙ ap (starts_with w) (take_at s t (length s) refl) ∙ h

  pub word_marks : 0 < length w → Marks (word w)
  word_marks pos = record {
    moves = λ s n e. omega (arith, (word_at s n e).1);
    within = λ s n e. omega (arith, (word_at s n e).1, starts_long w s (word_at s n e).0);
    alone = λ s n e. let a = word_at s n e in word_is (take n s) n (starts_take w s n (omega (arith, a.1)) ∙ a.0) a.1;
    more = λ s t n e. let a = word_at s n e in word_is (s ++ t) n (starts_more s t a.0) a.1;
  }

-- ---- an LF stands in it only as the last byte: a finished line tells then whether the word opens it
pub record LfLast (w : List ℕ) : Type 0 where
  pub is : (k : ℕ) → k + 1 < length w → eqb (get_or w k 0) 10 ≡ false

pub part_last : (l : List ℕ) (o n : ℕ) → LfLast l → LfLast (take n (drop o l))
part_last l o n h = record {
  is = λ k g.
      ap (λ (x : ℕ). eqb x 10) (get_or-take n (drop o l) k 0 (omega (arith, length-take n (drop o l))) ∙ get_or-drop o l k 0)
      ∙ h.is (o + k) (omega (arith, length-take n (drop o l), length-drop o l));
}

pub line_last : (s l r : List ℕ) → fetch a_line s ≡ got l r → LfLast l
line_last s l r f =
    let d = lined s l r f in
    record { is = λ k g. ap (λ (x : ℕ). eqb x 10) (ap (λ (z : List ℕ). get_or z k 0) (sym d.front) ∙ get_or-take (length l) s k 0 (omega arith)) ∙ d.no k (omega arith) }

pub dash_last : (b : List ℕ) → LfLast b → LfLast (dash b)
dash_last b h = record { is = at }
  where
    at : (k : ℕ) → k + 1 < length (dash b) → eqb (get_or (dash b) k 0) 10 ≡ false
    at zero g = refl
    at (suc zero) g = refl
    at (suc (suc k)) g = h.is k (omega arith)

still_none : (w s l r t : List ℕ) → LfLast w → starts_with w s ≡ false → fetch a_line s ≡ got l r → starts_with w (s ++ t) ≡ false
still_none w s l r t h e f =
    by_test (starts_with w (s ++ t))
    (λ y.
    by_test (leb (length w) (length s))
    (λ z.
    let i : starts_with w s ≡ true =
    ap (starts_with w) (sym (take_at s t (length s) refl)) ∙ starts_take w (s ++ t) (length s) (leb-true (length w) (length s) z) ∙ y in
    cc)
    (λ z.
    let long : length s < length w = omega (arith, leb-false (length w) (length s) z) in
    let i = lined s l r f in
    let k = length l - 1 in
    let a : get_or (s ++ t) k 0 ≡ 10 = get_or-append s t 0 k (omega (arith, i.room, i.long)) ∙ i.end in
    let b : get_or w k 0 ≡ 10 =
    sym (get_or-append w (drop (length w) (s ++ t)) 0 k (omega (arith, i.room, i.long))) ∙ ap (λ (v : List ℕ). get_or v k 0) (sym (starts_is w (s ++ t) y)) ∙ a in
    let c : eqb (get_or w k 0) 10 ≡ false = h.is k (omega (arith, i.room, i.long)) in
    let d : eqb (get_or w k 0) 10 ≡ true = eq-eqb (get_or w k 0) 10 b in
    cc))
    (λ y. y)

pub word_told : (w : List ℕ) → LfLast w → Told (word w)
unfolding word
word_told w h = record { none = λ s l r t e f. let n = none s e in rw (still_none w s l r t h n f) }
  where
    none_if : (b : Bool) → cond b (Some (length w)) None ≡ None → b ≡ false
    none_if true g = absurd (let z : ◌≡◌ {A = ℕ} 0 1 = cc in omega arith)
    none_if false g = refl

    none : (s : List ℕ) → word w s ≡ None → starts_with w s ≡ false
    none s e = none_if (starts_with w s) e

-- ---- the delimiter of document 01
place_or : (p k : ℕ) (b : Bool) (rest : Option ℕ) → or_else (past p (cond b (Some k) None)) (past k rest) ≡ past k (cond b (Some p) rest)
unfolding past or_else
place_or p k true rest = ap Some (let n : k + p ≡ p + k = omega arith in n)
place_or p k false rest = refl

by_place : (f : ℕ → Option ℕ) (g : ℕ → Bool) (k : ℕ) → ((q : ℕ) → f q ≡ cond (g q) (Some k) None) → (p n : ℕ) → first_end f p n ≡ past k (first g p n)
unfolding first_end first past
by_place f g k h p zero = refl
by_place f g k h p (suc n) = rw (h p, by_place f g k h (p + 1) n) (place_or p k (g p) (first g (p + 1) n))

delimits_so : (d : List ℕ) (c e x : Bool) → cond (cond c true e) (cond x (Some (length d)) None) None ≡ cond ((c || e) && x) (Some (length d)) None
delimits_so d true e x = refl
delimits_so d false true x = refl
delimits_so d false false x = refl

pub delimited : (b s : List ℕ) → up_to (word (dash b)) true s ≡ fetch (delimiter b) s
unfolding up_to fetch reach first_place delimits may_stand stands_at standing word
delimited b s =
    ap (parted s)
    (by_place (stands_at (word (dash b)) true s) (delimits b s) (length (dash b))
    (λ q. delimits_so (dash b) (eqb q 0) (ends_with crlf (take q s)) (starts_with (dash b) (drop q s))) 0 (length s))
