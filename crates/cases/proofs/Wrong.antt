-- Wrong answers for each public contract of `cases`: none of them meets it.
-- Assumes nothing.
use mathlib.Core.Path.{◌≡◌, refl}
use mathlib.Core.Bool.{true, false}
use mathlib.Core.List.{List, [], ◌∷◌, ◌++◌, map}
use Prim.Native.Nat.{ℕ}
use lib.ListN.{replicate}
use Rattle.direction.specs.Direction.{guess}
use Rattle.reading.proofs.Rows.{Row, ◌is-neither◌nor◌, met}
use Rattle.reading.specs.Bytes.{starts_with, same}
use Rattle.cases.specs.Cases.{two, four, head_of, mark, sides_of, guessed, guess_of, pattern, only, same_from, same_numbers}
use Rattle.std.specs.Prelude.{Option, Some, None}
use Rattle.cases.specs.declared.Head.{Head}

-- ---- tests: one that always says yes, and one that never does
pub neither_always_nor_never :
    only 7 (7 ∷ []) ∷ only 7 (7 ∷ 8 ∷ []) ∷ same_numbers (513 ∷ []) (1 ∷ 2 ∷ 0 ∷ 0 ∷ []) ∷ same_numbers (513 ∷ []) (1 ∷ 3 ∷ 0 ∷ 0 ∷ []) ∷ []
    ≡ true ∷ false ∷ true ∷ false ∷ []
unfolding same_numbers same_from four two
neither_always_nor_never = refl

-- ---- answers as numbers
abbrev guess_no : Option ℕ → List ℕ
guess_no (Some n) = n ∷ []
guess_no None = []

-- letter S, one slot, two bytes
abbrev head : Head
head = head_of (83 ∷ 1 ∷ 0 ∷ 0 ∷ 0 ∷ 2 ∷ 0 ∷ 0 ∷ 0 ∷ [])

abbrev rows : List Row
rows =
    -- four: the greatest first; one number too few
    (four (1 ∷ 2 ∷ 0 ∷ 0 ∷ []) 0 ∷ [] is-neither 16908288 ∷ [] nor 258 ∷ []) ∷
    -- head_of: slots and length changed over; a slot for each byte
    (head.slots ∷ head.length ∷ [] is-neither 2 ∷ 1 ∷ [] nor 2 ∷ 2 ∷ []) ∷
    -- guess: broken both times; a guess from too few bytes
    (guess_no (guess_of (9 ∷ [])) ++ guess_no (guess_of (9 ∷ replicate 12 0)) is-neither [] nor 0 ∷ 3 ∷ []) ∷
    -- fill: one number too few; zeros
    (replicate 2 pattern is-neither pattern ∷ [] nor 0 ∷ 0 ∷ []) ∷
    []

pub wrong_answers : map met rows ≡ replicate 4 false
unfolding four two head_of mark sides_of guessed guess_of guess same starts_with
wrong_answers = refl
