-- Runs of bytes at a list's start and end, and numbers written in digits.
-- Assumes nothing.
use Rattle.std.specs.Prelude.{◌≡◌, Bool, cond, not, ◌||◌, List, [], ◌∷◌, ℕ, zero, suc, ◌+◌, ◌*◌, ◌-◌, ◌<◌, eqb, leb, ltb, length, get_or, Option, Some, None}
use Rattle.classes.specs.Classes.{is_white}

-- tests of a byte besides those of the classes: it is a space; it is not white; it does not end an unquoted boundary
abbrev pub space : ℕ → Bool
space b = eqb b 32

abbrev pub dark_byte : ℕ → Bool
dark_byte b = not (is_white b)

abbrev pub bare : ℕ → Bool
bare b = not (eqb b 59 || (eqb b 32 || eqb b 13))

-- a function that answers as `post` says is the test of a byte
abbrev pub Tests : (ℕ → Bool → Type 0) → (ℕ → Bool) → Type 0
Tests post test = (b : ℕ) (r : Bool) → b < 256 → post b r → r ≡ test b

-- how many bytes that pass the test stand at the list's start
unfoldable pub lead : (ℕ → Bool) → List ℕ → ℕ
lead test [] = 0
lead test (b ∷ l) = cond (test b) (1 + lead test l) 0

-- the last of the first n numbers that passes the test
unfoldable pub last : (ℕ → Bool) → ℕ → Option ℕ
last test zero = None
last test (suc n) = cond (test n) (Some n) (last test n)

-- the last place of l that passes the test
unfoldable pub last_place : (ℕ → Bool) → List ℕ → Option ℕ
last_place test l = last test (length l)

-- the length up to a place's byte, that byte included
unfoldable pub through : Option ℕ → ℕ
through (Some p) = p + 1
through None = 0

-- what digits are worth behind those that are worth n
unfoldable pub worth_behind : ℕ → List ℕ → ℕ
worth_behind n [] = n
worth_behind n (d ∷ l) = worth_behind (n * 10 + (d - 48)) l

-- what digits are worth
unfoldable pub worth : List ℕ → ℕ
worth l = worth_behind 0 l

-- what the digit is worth that k others follow; 0 where there is none
unfoldable pub from_last : ℕ → List ℕ → ℕ
from_last k l = cond (ltb k (length l)) (get_or l (length l - (k + 1)) 0 - 48) 0

-- a number, if it is at most max
unfoldable pub up_to : ℕ → ℕ → Option ℕ
up_to max n = cond (leb n max) (Some n) None
