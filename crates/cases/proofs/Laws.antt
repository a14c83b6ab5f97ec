-- What the loops over a table have come to.
-- Assumes nothing.
use mathlib.Core.Path.{◌≡◌, refl, sym, ap, ◌∙◌}
use mathlib.Core.Bool.{Bool, true, false, cond}
use mathlib.Core.List.{[], List}
use Prim.Native.Nat.{ℕ, ◌+◌, ◌*◌, ◌-◌, ◌/◌, ◌≤◌, ◌<◌}
use native.Mathlib.Omega.{arith}
use lib.Dec.{ltb}
use lib.Seq.{take_all, length-take-le}
use lib.ListN.{length, drop, get_or, drop_of_length-le}
use borrow.Author.Tests.{eq-eqb, ne_eqb, ltb-false}
use Rattle.reading.proofs.Words.{left_at}
use Rattle.cases.specs.Cases.{lent_size, lent, four, same_from, same_numbers, sides_of}
use Rattle.std.specs.Prelude.{Option, Some, None, take}
use Rattle.std.specs.Io.KnownBytes.{Consumes}
use Rattle.cases.specs.declared.Sides.{Sides}

-- ---- the answer from number i on is the answer
pub record Compared (t b : List ℕ) (i : ℕ) : Type 0 where
  pub is : same_from t b 0 ≡ same_from (drop i t) b i
  pub long : length b / 4 ≡ length t

pub compared_none_yet : (t b : List ℕ) → length b / 4 ≡ length t → Compared t b 0
compared_none_yet t b h = record { is = refl; long = h }

pub compared_long : (t b : List ℕ) → (length b / 4 ≡ length t → ⊥) → false ≡ same_numbers t b
unfolding same_numbers
compared_long t b h = rw (ne_eqb _ _ h)

module _ {t b : List ℕ} {i : ℕ} (c : Compared t b i) where
  pub compared_on : i < length t → get_or t i 0 ≡ four b (4 * i) → Compared t b (i + 1)
  unfolding same_from
  compared_on h e = record { is = c.is ∙ ap (λ (l : List ℕ). same_from l b i) (left_at t i h) ∙ rw (eq-eqb _ _ e); long = c.long }

  pub compared_differs : i < length t → (get_or t i 0 ≡ four b (4 * i) → ⊥) → false ≡ same_numbers t b
  unfolding same_from same_numbers
  compared_differs h d = rw (eq-eqb _ _ c.long) (sym (c.is ∙ ap (λ (l : List ℕ). same_from l b i) (left_at t i h) ∙ rw (ne_eqb _ _ d)))

  pub compared_all : length t ≤ i → true ≡ same_numbers t b
  unfolding same_from same_numbers
  compared_all h = rw (eq-eqb _ _ c.long) (sym (c.is ∙ ap (λ (l : List ℕ). same_from l b i) (drop_of_length-le t h)))

-- ---- where a record's payloads lie
pub record Lies (b : List ℕ) (s : Sides) : Type 0 where
  pub from : 13 ≤ s.server
  pub to : s.server ≤ length b

sides_if : (b : List ℕ) (s q : Sides) (x y : Bool) → ltb (length b) 13 ≡ x → ltb (length b - 13) (four b 9) ≡ y → q.server ≡ 13 + four b 9
    → cond x None (cond y None (Some q)) ≡ Some s → Lies b s
sides_if b s q true y e f w h = absurd (let z : ◌≡◌ {A = ℕ} 0 1 = cc in omega arith)
sides_if b s q false true e f w h = absurd (let z : ◌≡◌ {A = ℕ} 0 1 = cc in omega arith)
sides_if b s q false false e f w h =
    let same : q ≡ s = cc in
    let is : s.server ≡ 13 + four b 9 = rw same at w in
    record { from = omega arith; to = omega (arith, ltb-false (length b) 13 e, ltb-false (length b - 13) (four b 9) f) }

pub sides_lie : (b : List ℕ) (s : Sides) → sides_of b ≡ Some s → Lies b s
unfolding sides_of
sides_lie b s h = sides_if b s _ _ _ refl refl refl h

-- ---- how many numbers are lent
lent_if : (x y : Bool) (k m : ℕ) → cond x None (cond y None (Some k)) ≡ Some m → m ≡ k
lent_if true y k m h = absurd (let z : ◌≡◌ {A = ℕ} 0 1 = cc in omega arith)
lent_if false true k m h = absurd (let z : ◌≡◌ {A = ℕ} 0 1 = cc in omega arith)
lent_if false false k m h = cc

pub lent_is : (numbers slots n m : ℕ) → lent numbers slots n ≡ Some m → m ≡ lent_size slots n
unfolding lent
lent_is numbers slots n m h = lent_if _ _ _ m h

-- ---- what was taken, by how many bytes came
module _ (old new : Option (List ℕ)) (b : List ℕ) where
  pub taken_none : (n : ℕ) → n ≡ 0 → Consumes old new (take n b) → Consumes old new []
  taken_none n e w = rw e at w

  pub taken_whole : (n : ℕ) → length b ≤ n → Consumes old new (take n b) → Consumes old new b
  taken_whole n h w = rw (take_all n b h) at w

pub part_length : (n : ℕ) (b : List ℕ) → n ≤ length b → length (take n b) ≡ n
part_length n b h = length-take-le n b h
