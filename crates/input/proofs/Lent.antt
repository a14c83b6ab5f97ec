-- A part that was lent from the front, and came back.
-- Assumes nothing.
use mathlib.Core.Path.{◌≡◌, sym, ap, ◌∙◌}
use mathlib.Core.List.{List, ◌++◌}
use Prim.Native.Nat.{ℕ, ◌≤◌}
use native.Mathlib.Omega.{arith}
use lib.ListN.{length, take, drop, replicate, length-append}
use lib.Seq.{length-take-le, take_at}

module _ (n : ℕ) (o u : List ℕ) (h : n ≤ length o) where
  pub lent : length u ≡ length (take n o) → n ≡ length (take n (u ++ drop n o))
  lent k = let e : length u ≡ n = k ∙ length-take-le n o h in sym (ap length (take_at u (drop n o) n e) ∙ e)

  pub lent_front : length u ≡ length (take n o) → take n (u ++ drop n o) ≡ u
  lent_front k = take_at u (drop n o) n (k ∙ length-take-le n o h)

  pub lent_room : length u ≡ length (take n o) → n ≤ length (u ++ drop n o)
  lent_room k = simp length-append (omega (arith, length-take-le n o h))

  pub lent_filled : (p : ℕ) → u ≡ replicate (length (take n o)) p → u ≡ replicate n p
  lent_filled p e = e ∙ ap (λ (k : ℕ). replicate k p) (length-take-le n o h)
