-- Comparing a word by its last byte first.
-- Assumes nothing.
use mathlib.Core.Path.{◌≡◌, ap, ◌∙◌}
use mathlib.Core.Bool.{true, false}
use mathlib.Core.List.{List}
use Prim.Native.Nat.{ℕ, ◌-◌}
use native.Mathlib.Omega.{arith}
use lib.Dec.{eqb}
use lib.ListN.{length, drop, get_or, get_or-append}
use borrow.Author.Tests.{eqb-false, eq-eqb, le-leb}
use Rattle.reading.specs.Blocks.{last_stands}
use Rattle.reading.specs.Bytes.{starts_with}
use Rattle.reading.proofs.Places.{by_test}
use Rattle.reading.proofs.Words.{starts_is, starts_long}

-- ---- the last byte
starts_last : (w l : List ℕ) → starts_with w l ≡ true → last_stands w l ≡ true
unfolding last_stands
starts_last w l h =
    by_test (eqb (length w) 0)
    (λ t. rw t)
    (λ f.
    let n = eqb-false (length w) 0 f in
    let e : get_or l (length w - 1) 0 ≡ get_or w (length w - 1) 0 =
    ap (λ (m : List ℕ). get_or m (length w - 1) 0) (starts_is w l h)
    ∙ get_or-append w (drop (length w) l) 0 (length w - 1) (omega (arith, n)) in
    rw (f, le-leb (length w) (length l) (starts_long w l h), eq-eqb (get_or l (length w - 1) 0) (get_or w (length w - 1) 0) e))

pub starts_not : (w l : List ℕ) → last_stands w l ≡ false → starts_with w l ≡ false
starts_not w l f = by_test (starts_with w l) (λ t. absurd (let x = starts_last w l t in let z : ◌≡◌ {A = ℕ} 0 1 = cc in omega arith)) (λ g. g)
