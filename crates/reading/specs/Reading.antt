-- What is read, and how far a read reaches: document 01, 'Reading'.
-- Assumes nothing.
use Rattle.std.specs.Prelude.{Bool, cond, ◌&&◌, ◌||◌, List, ◌++◌, ℕ, ◌+◌, ◌-◌, eqb, ltb, length, take, drop, Option, Some, None}
use Rattle.reading.specs.Bytes.{starts_with, ends_with, first_place, holds}
use Rattle.reading.specs.Text.{text}

abbrev pub lf : ℕ
lf = 10

abbrev pub crlf : List ℕ
crlf = text "\r\n"

-- without one w at its end, if it ends with w
unfoldable pub drop_end : List ℕ → List ℕ → List ℕ
drop_end w l = cond (ends_with w l) (take (length l - length w) l) l

-- a clean line drops its LF and one CR directly before that in the line
unfoldable pub clean : List ℕ → List ℕ
clean l = drop_end (text "\r") (drop_end (text "\n") l)

-- two hyphens and the boundary b
abbrev pub dash : List ℕ → List ℕ
dash b = text "--" ++ b

-- a delimiter may stand at p: p is the region's start, or the two bytes before p are CRLF inside the region
unfoldable pub may_stand : List ℕ → ℕ → Bool
may_stand s p = eqb p 0 || ends_with crlf (take p s)

-- a delimiter for the boundary b stands at p
unfoldable pub delimits : List ℕ → List ℕ → ℕ → Bool
delimits b s p = may_stand s p && starts_with (dash b) (drop p s)

-- what a read asks for
pub data Need : Type 0 where
  a_line : Need
  bytes : ℕ → Need  -- `bytes n`: n + 1 bytes, so that every read takes a byte
  delimiter : List ℕ → Need  -- all up to the delimiter for this boundary, and the delimiter
  nothing : Need  -- nothing is read any more

abbrev pub two : Need
two = bytes 1

unfoldable pub past : ℕ → Option ℕ → Option ℕ
past n (Some p) = Some (p + n)
past n None = None

-- the place behind what is read, or that the read needs bytes beyond the end:
-- a line ends with, and includes, the first LF; a sized read needs all its bytes; reading goes on after the first delimiter's boundary
unfoldable pub reach : Need → List ℕ → Option ℕ
reach a_line s = past 1 (first_place (holds lf s) s)
reach (bytes n) s = cond (ltb n (length s)) (Some (n + 1)) None
reach (delimiter b) s = past (length (dash b)) (first_place (delimits b s) s)
reach nothing s = None

-- what a read got, and what is left behind it
pub data Got : Type 0 where
  got : (piece rest : List ℕ) → Got
  short : Got

unfoldable pub parted : List ℕ → Option ℕ → Got
parted s (Some e) = got (take e s) (drop e s)
parted s None = short

unfoldable pub fetch : Need → List ℕ → Got
fetch need s = parted s (reach need s)
