-- Reads of lines up to a mark, one piece after another: request W2, 'of a preamble or content every finished line'.
-- Assumes nothing.
use Rattle.std.specs.Prelude.{Bool, cond, false, List, ℕ, eqb, length, Option, Some, None}
use Rattle.reading.specs.Bytes.{starts_with}
use Rattle.reading.specs.Reading.{Got, a_line, reach, parted}

-- a mark says how many of the bytes it takes, if it opens them
abbrev pub Mark : Type 0
Mark = List ℕ → Option ℕ

-- the word w as a mark
unfoldable pub word : List ℕ → Mark
word w s = cond (starts_with w s) (Some (length w)) None

unfoldable pub or_else : Option ℕ → Option ℕ → Option ℕ
or_else (Some n) other = Some n
or_else None other = other

-- the mark that stands here, `here` saying whether one may
unfoldable pub standing : Mark → Bool → List ℕ → Option ℕ
standing mark here s = cond here (mark s) None

-- the next piece: the mark, where one may stand and does; else a line that is finished
unfoldable pub piece_of : Mark → Bool → List ℕ → Got
piece_of mark here s = parted s (or_else (standing mark here s) (reach a_line s))

unfoldable pub is_at : ℕ → Option ℕ → Bool
is_at n (Some m) = eqb m n
is_at n None = false

-- the piece is the mark
unfoldable pub is_mark : Mark → Bool → List ℕ → Bool
is_mark mark here l = is_at (length l) (standing mark here l)
