-- What the program prints: document 01, 'Sessions to check'.
-- Assumes nothing.
use Rattle.std.specs.Prelude.{cond, List, [], ◌∷◌, ℕ, ◌*◌, ◌≤◌, ltb, length, replicate, Option, Some, None}
use Rattle.letters.specs.Letters.{entry_of}
use Rattle.rules.specs.Sessions.{answer_of}
use Rattle.rules.specs.declared.Entry.{Entry}
use Rattle.listing.specs.Listing.{Pasted, listing}
use Rattle.reading.specs.Text.{text}

abbrev pub longest : ℕ
longest = 3072

-- more than 3,072 bytes print only `long`; a table with a slot per byte
unfoldable pub listed : Entry → List ℕ → List ℕ
listed e s = cond (ltb longest (length s)) (text "long\n") (listing (answer_of e (replicate (4 * length s) 0) s))

unfoldable pub by_letter : Option Entry → List ℕ → List ℕ
by_letter (Some e) s = listed e s
by_letter None s = text "bad\n"

-- with no valid first byte, tested first, only `bad`
unfoldable pub printed : List ℕ → List ℕ
printed [] = text "bad\n"
printed (b ∷ s) = by_letter (entry_of b) s

-- the text stands at the front of u, which was o, and is r bytes long
pub record Prints (o t : List ℕ) (r : ℕ) (u : List ℕ) : Type 0 where
  pub puts : Pasted o 0 t r u
  pub within : r ≤ length u
