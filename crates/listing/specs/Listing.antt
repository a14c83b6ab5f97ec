-- The text of a listing: document 01, 'Sessions to check'.
-- Assumes nothing.
use Rattle.std.specs.Prelude.{◌≡◌, cond, List, [], ◌∷◌, ◌++◌, ℕ, zero, suc, ◌+◌, ◌/◌, ◌%◌, ltb, length}
use Rattle.std.proofs.Math.Seq.{paste}
use Rattle.events.specs.Events.{numbers, result_number}
use Rattle.events.specs.Table.{Final, event_at}

-- the digits of a number that has at most so many
unfoldable pub spelled : ℕ → ℕ → List ℕ
spelled zero n = []
spelled (suc most) n = cond (ltb n 10) ((48 + n) ∷ []) (spelled most (n / 10) ++ ((48 + n % 10) ∷ []))

-- a number in decimal, and a byte behind it
unfoldable pub word : ℕ → ℕ → List ℕ
word n behind = spelled 20 n ++ (behind ∷ [])

-- numbers with a space between them, and LF behind the last
unfoldable pub line : List ℕ → List ℕ
line [] = []
line (n ∷ []) = word n 10
line (n ∷ m ∷ ns) = word n 32 ++ line (m ∷ ns)

-- a line for each of the first n events
unfoldable pub event_lines : ℕ → List ℕ → List ℕ
event_lines zero t = []
event_lines (suc n) t = event_lines n t ++ line (numbers (event_at t n))

-- one line per event, then result, place, count
unfoldable pub listing : Final → List ℕ
listing f = event_lines f.count f.table ++ line (result_number f.result ∷ f.place ∷ f.count ∷ [])

-- o has become u: the text t stands from `at` on, up to r, and all else is as it was
pub record Pasted (o : List ℕ) (at : ℕ) (t : List ℕ) (r : ℕ) (u : List ℕ) : Type 0 where
  pub end : r ≡ at + length t
  pub is : u ≡ paste o at t (length t)
