-- White space among the characters above 32, one test behind another.
-- Assumes nothing.
use mathlib.Core.Path.{◌≡◌}
use mathlib.Core.Bool.{true, false}
use Prim.Native.Nat.{ℕ, ◌<◌}
use lib.Dec.{eqb}
use borrow.Author.Tests.{ne_eqb}
use Rattle.classes.specs.Classes.{is_white}
use Rattle.utf8.specs.Utf8.{between, is_space}
use Rattle.utf8.proofs.Below.{above_dark}

-- ---- those that stand alone
pub next_line : (c : ℕ) → c ≡ 0x85 → true ≡ is_space c
unfolding is_space is_white
next_line c e = rw e

pub no_break : (c : ℕ) → c ≡ 0xa0 → true ≡ is_space c
unfolding is_space is_white
no_break c e = rw e

pub ogham : (c : ℕ) → c ≡ 0x1680 → true ≡ is_space c
unfolding is_space is_white
ogham c e = rw e

pub narrow : (c : ℕ) → c ≡ 0x202f → true ≡ is_space c
unfolding is_space is_white
narrow c e = rw e

pub mathematical : (c : ℕ) → c ≡ 0x205f → true ≡ is_space c
unfolding is_space is_white
mathematical c e = rw e

-- ---- behind them
module _ (c : ℕ) (above : 32 < c) (a : c ≡ 0x85 → ⊥) (b : c ≡ 0xa0 → ⊥) (d : c ≡ 0x1680 → ⊥) where
  pub quad : between 0x2000 0x200a c ≡ true → true ≡ is_space c
  unfolding is_space
  quad q = rw (above_dark c above, ne_eqb c 0x85 a, ne_eqb c 0xa0 b, ne_eqb c 0x1680 d, q)

  pub separator : between 0x2000 0x200a c ≡ false → between 0x2028 0x2029 c ≡ true → true ≡ is_space c
  unfolding is_space
  separator n q = rw (above_dark c above, ne_eqb c 0x85 a, ne_eqb c 0xa0 b, ne_eqb c 0x1680 d, n, q)

  -- none of those: the last decides
  pub last_space : between 0x2000 0x200a c ≡ false → between 0x2028 0x2029 c ≡ false → (c ≡ 0x202f → ⊥) → (c ≡ 0x205f → ⊥) → is_space c ≡ eqb c 0x3000
  unfolding is_space
  last_space n q f g = rw (above_dark c above, ne_eqb c 0x85 a, ne_eqb c 0xa0 b, ne_eqb c 0x1680 d, n, q, ne_eqb c 0x202f f, ne_eqb c 0x205f g)
