-- Comparing and finding bytes. A place of a list is where one of its bytes stands, counted from 0.
-- Assumes nothing.
use Rattle.std.specs.Prelude.{Bool, true, false, cond, ◌&&◌, List, [], ◌∷◌, map, ℕ, zero, suc, ◌+◌, ◌-◌, eqb, length, drop, get_or, Option, Some, None}
use Rattle.classes.specs.Classes.{upper_of}
use Rattle.reading.specs.declared.Span.{Span}

-- l opens with w
unfoldable pub starts_with : List ℕ → List ℕ → Bool
starts_with [] l = true
starts_with (x ∷ w) [] = false
starts_with (x ∷ w) (y ∷ l) = eqb y x && starts_with w l

-- l is w
unfoldable pub same : List ℕ → List ℕ → Bool
same w l = eqb (length l) (length w) && starts_with w l

-- l ends with w
unfoldable pub ends_with : List ℕ → List ℕ → Bool
ends_with w l = same w (drop (length l - length w) l)

-- in upper case: two lists are equal in any case if they are equal so
unfoldable pub raised : List ℕ → List ℕ
raised l = map upper_of l

-- the first of the n numbers from p on that passes the test
unfoldable pub first : (ℕ → Bool) → ℕ → ℕ → Option ℕ
first test p zero = None
first test p (suc n) = cond (test p) (Some p) (first test (p + 1) n)

-- the first place of l that passes the test
unfoldable pub first_place : (ℕ → Bool) → List ℕ → Option ℕ
first_place test l = first test 0 (length l)

-- the byte b stands at p
unfoldable pub holds : ℕ → List ℕ → ℕ → Bool
holds b l p = eqb (get_or l p 0) b

-- the word w stands at p
unfoldable pub stands : List ℕ → List ℕ → ℕ → Bool
stands w l p = starts_with w (drop p l)

-- whether there is a place
unfoldable pub found : Option ℕ → Bool
found (Some p) = true
found None = false

-- n bytes from o on
abbrev pub span : ℕ → ℕ → Span
span o n = record { at = o; len = n }

-- w stands somewhere in l
unfoldable pub contains : List ℕ → List ℕ → Bool
contains w l = found (first_place (stands w l) l)
