-- Tags: the library's `all` in the words of specs/, and one law for each way through the tests at a space.
-- Assumes nothing.
use mathlib.Core.Path.{◌≡◌, refl, ap}
use mathlib.Core.Bool.{Bool, true, false, ◌&&◌}
use mathlib.Core.List.{List, [], ◌∷◌}
use Prim.Native.Nat.{ℕ, ◌+◌, ◌≤◌}
use lib.ListN.{length, take, get_or, get_or-eq_default}
use Rattle.classes.specs.Classes.{is_upper}
use Rattle.std.specs.List.{list_all}
use Rattle.std.specs.Prelude.{Some}
use Rattle.direction.specs.Direction.{is_tag_byte, is_tag, command_at}

pub all_tag : (l : List ℕ) → list_all is_tag_byte l ≡ is_tag l
unfolding is_tag
all_tag [] = refl
all_tag (b ∷ l) = ap (λ (t : Bool). is_tag_byte b && t) (all_tag l)

-- ---- a space at p
module _ (l : List ℕ) (p : ℕ) where
  pub tagless : is_tag (take p l) ≡ false → false ≡ command_at l (Some p)
  unfolding command_at
  tagless f = rw f

  pub bare_tag : is_tag (take p l) ≡ true → length l ≤ p + 1 → false ≡ command_at l (Some p)
  unfolding command_at is_upper
  bare_tag t h = rw (t, get_or-eq_default l 0 h)

  pub tag_and : is_tag (take p l) ≡ true → is_upper (get_or l (p + 1) 0) ≡ command_at l (Some p)
  unfolding command_at
  tag_and t = rw t
