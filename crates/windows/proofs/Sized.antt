-- A sized read goes byte by byte.
-- Assumes nothing.
use mathlib.Core.Path.{◌≡◌, refl, sym, ◌∙◌}
use mathlib.Core.Bool.{true, false}
use mathlib.Core.List.{List, [], ◌∷◌}
use Prim.Native.Nat.{ℕ, zero, suc, ◌+◌, ◌-◌, ◌≤◌, ◌<◌}
use native.Mathlib.Omega.{arith}
use lib.Dec.{eqb, ltb}
use lib.ListN.{length}
use borrow.Author.Tests.{eqb-true, eqb-false, lt-ltb, le-ltb, ltb-true, ltb-false}
use Rattle.reading.proofs.Places.{by_test}
use Rattle.reading.specs.Reading.{bytes, reach, got, short, parted, fetch}
use Rattle.std.specs.Prelude.{Some, None}
use Rattle.windows.proofs.Piecemeal.{onto, Piecemeal}

pub sized_one : (x : ℕ) (s : List ℕ) → fetch (bytes 0) (x ∷ s) ≡ got (x ∷ []) s
unfolding fetch reach parted
sized_one x s = rw (lt-ltb 0 (suc (length s)) (let z : 0 < suc (length s) = omega arith in z))

pub sized_none : (n : ℕ) → fetch (bytes n) [] ≡ short
unfolding fetch reach parted
sized_none n = rw (le-ltb n 0 (let z : 0 ≤ n = omega arith in z))

sized_on : (n x : ℕ) (s : List ℕ) → fetch (bytes (suc n)) (x ∷ s) ≡ onto (x ∷ []) (fetch (bytes n) s)
unfolding fetch reach parted onto
sized_on n x s = by_test (ltb n (length s))
    (λ h. let g = lt-ltb (suc n) (suc (length s)) (omega (arith, ltb-true n (length s) h)) in rw (g, h) by_room)
    (λ h. let g = le-ltb (suc n) (suc (length s)) (omega (arith, ltb-false n (length s) h)) in rw (g, h) none)
  where
    by_room : parted (x ∷ s) (Some (suc n + 1)) ≡ onto (x ∷ []) (parted s (Some (n + 1)))
    by_room = let z : suc n + 1 ≡ suc (n + 1) = omega arith in rw z

    none : parted (x ∷ s) None ≡ onto (x ∷ []) (parted s None)
    none = refl

-- left + 1 bytes, one after another
pub by_bytes : Piecemeal {U = ℕ} (λ left s. fetch (bytes 0) s) (λ left l. eqb left 0) (λ left l. left - 1) (λ left s. fetch (bytes left) s)
by_bytes = record { ends = ends; on = on; waits = waits }
  where
    ends : (left : ℕ) (s p r : List ℕ) → fetch (bytes 0) s ≡ got p r → eqb left 0 ≡ true → fetch (bytes left) s ≡ got p r
    ends left s p r e h = rw (eqb-true left 0 h) e

    on : (left : ℕ) (s p r : List ℕ) → fetch (bytes 0) s ≡ got p r → eqb left 0 ≡ false → fetch (bytes left) s ≡ onto p (fetch (bytes (left - 1)) r)
    on zero s p r e h = absurd (eqb-false 0 0 h refl)
    on (suc n) [] p r e h = absurd (let w : short ≡ got p r = sym (sized_none 0) ∙ e in let z : ◌≡◌ {A = ℕ} 0 1 = cc in omega arith)
    on (suc n) (x ∷ s) p r e h =
        let w : got (x ∷ []) s ≡ got p r = sym (sized_one x s) ∙ e in
        let a : x ∷ [] ≡ p = cc in
        let b : s ≡ r = cc in
        let z : suc n - 1 ≡ n = omega arith in
        sized_on n x s ∙ rw (z, a, b)

    waits : (left : ℕ) (s : List ℕ) → fetch (bytes 0) s ≡ short → fetch (bytes left) s ≡ short
    waits left [] e = sized_none left
    waits left (x ∷ s) e = absurd (let w : got (x ∷ []) s ≡ short = sym (sized_one x s) ∙ e in let z : ◌≡◌ {A = ℕ} 0 1 = cc in omega arith)
