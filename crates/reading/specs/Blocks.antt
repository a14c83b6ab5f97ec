-- What the searches by blocks answer.
-- Assumes nothing.
use Rattle.std.specs.Prelude.{◌≡◌, Bool, true, false, ◌&&◌, ◌||◌, List, ℕ, ◌-◌, ◌≤◌, ◌<◌, eqb, leb, length, get_or}
use Rattle.reading.specs.Bytes.{holds}

-- a hyphen stands at p, behind an LF
unfoldable pub dashed : List ℕ → ℕ → Bool
dashed s p = holds 45 s p && holds 10 s (p - 1)

-- a function that answers as `post` says computes the test at the places from p up to q
abbrev pub Computes : (ℕ → Bool → Type 0) → (ℕ → Bool) → ℕ → ℕ → Type 0
Computes post test p q = (k : ℕ) (r : Bool) → p ≤ k → k < q → post k r → r ≡ test k

-- a search has come from p to q, and no place between them passes the test
pub record Passed (test : ℕ → Bool) (s : List ℕ) (p q : ℕ) : Type 0 where
  pub on : p ≤ q
  pub within : q ≤ length s
  pub none : (k : ℕ) → p ≤ k → k < q → test k ≡ false

-- q is the first place from p on that passes the test, or the end
pub record Next (test : ℕ → Bool) (s : List ℕ) (p q : ℕ) : Type 0 where
  pub passed : Passed test s p q
  pub passes : q < length s → test q ≡ true

-- the last place that passes the test is the one before q; where none does, q is 0
pub record Last (test : ℕ → Bool) (s : List ℕ) (q : ℕ) : Type 0 where
  pub passed : Passed test s q (length s)
  pub passes : 0 < q → test (q - 1) ≡ true

-- w is empty, or its last byte stands where it would if w stood at the front of l
unfoldable pub last_stands : List ℕ → List ℕ → Bool
last_stands w l = eqb (length w) 0 || (leb (length w) (length l) && eqb (get_or l (length w - 1) 0) (get_or w (length w - 1) 0))
