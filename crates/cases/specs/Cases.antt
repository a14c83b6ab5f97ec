-- Records of the oracle's files, and the pattern: oracle/README.md, 'Formats'.
-- Assumes nothing.
use Rattle.std.specs.Prelude.{◌≡◌, ◌<◌, Bool, true, cond, not, ◌&&◌, List, [], ◌∷◌, ℕ, ◌+◌, ◌*◌, ◌-◌, ◌/◌, ◌%◌, eqb, ltb, length, take, drop, get_or, ◌==◌, Option, Some, None, Result, Ok, Err}
use Rattle.std.specs.List.{list_all}
use Rattle.std.specs.Io.KnownBytes.{Consumes, IsAtEnd}
use Rattle.direction.specs.Direction.{guess, guess_number, side}
use Rattle.reading.specs.Text.{text}
use Rattle.cases.specs.declared.Ending.{Ending}
use Rattle.cases.specs.declared.Ending.TheVariants as ending
use Rattle.cases.specs.declared.Head.{Head}
use Rattle.cases.specs.declared.Sides.{Sides}

-- two bytes, and four, as a number, the least first
unfoldable pub two : List ℕ → ℕ → ℕ
two b at = get_or b at 0 + 256 * get_or b (at + 1) 0

unfoldable pub four : List ℕ → ℕ → ℕ
four b at = two b at + 65536 * two b (at + 2)

-- a record's letter, slots and length; the largest number of slots is one per byte
unfoldable pub head_of : List ℕ → Head
head_of b = record { letter = get_or b 0 0; slots = cond (eqb (four b 1) 4294967295) (four b 5) (four b 1); length = four b 5 }

-- a mark of a number: 0 its least bit, 1 the next
unfoldable pub mark : ℕ → Bool
mark n = not (eqb (n % 2) 0)

-- protocol, both ports, the marks, the client side's payload with its length, and the server side's to the end
unfoldable pub sides_of : List ℕ → Option Sides
sides_of b =
    cond (ltb (length b) 13) None
    (cond (ltb (length b - 13) (four b 9)) None
    (Some
    (record {
      protocol = four b 0;
      client_port = two b 4;
      server_port = two b 6;
      client_held = mark (get_or b 8 0);
      server_held = mark (get_or b 8 0 / 2);
      server = 13 + four b 9;
    })))

-- the direction guess of a record's bytes: the client side's payload begins at 13
unfoldable pub guessed : List ℕ → Option Sides → Option ℕ
guessed b (Some s) =
    Some
    (guess_number
    (guess s.protocol
    (side s.client_port s.client_held (take (s.server - 13) (drop 13 b)))
    (side s.server_port s.server_held (drop s.server b))))
guessed b None = None

unfoldable pub guess_of : List ℕ → Option ℕ
guess_of b = guessed b (sides_of b)

-- ---- why no case follows, and what is written of it
abbrev pub word_of : Ending → List ℕ
word_of ending.End = []
word_of ending.Unread = text "unread\n"
word_of ending.Cut = text "cut\n"
word_of ending.Large = text "large\n"
word_of ending.Broken = text "broken\n"
word_of ending.Touched = text "touched\n"

-- where a record may begin: the end of the input, or no head, or nine bytes of one; nothing is known of them before they are read
pub data NextHead : Result Head Ending → Type 0 where
  end : NextHead (Err ending.End)
  no_head : NextHead (Err ending.Unread)
  half_head : NextHead (Err ending.Cut)
  head : (bytes : List ℕ) → length bytes ≡ 9 → NextHead (Ok (head_of bytes))

-- what was taken from a reader whose bytes are known: all of a head; of half a head all that was left; nothing where nothing was left
abbrev pub TakesHead : Result Head Ending → Option (List ℕ) → Option (List ℕ) → Type 0
TakesHead (Ok h) old new = (b : List ℕ) × (length b ≡ 9) × (h ≡ head_of b) × Consumes old new b
TakesHead (Err ending.End) old new = Consumes old new [] × IsAtEnd new
TakesHead (Err ending.Cut) old new = (b : List ℕ) × (0 < length b) × (length b < 9) × Consumes old new b × IsAtEnd new
TakesHead (Err ending.Unread) old new = Unit {0}
TakesHead (Err ending.Large) old new = ⊥
TakesHead (Err ending.Broken) old new = ⊥
TakesHead (Err ending.Touched) old new = ⊥

-- bytes that have to be there: the read failed, or the input ended before the last byte, or they are
pub data Reads : Result (Unit {0}) Ending → Type 0 where
  unread : Reads (Err ending.Unread)
  cut : Reads (Err ending.Cut)
  read : {u : Unit {0}} → Reads (Ok u)

-- what was taken: all that the buffer b holds, or all that was left, which is less
abbrev pub TakesAll : Result (Unit {0}) Ending → Option (List ℕ) → Option (List ℕ) → List ℕ → Type 0
TakesAll (Ok u) old new b = Consumes old new b
TakesAll (Err ending.Cut) old new b = (n : ℕ) × (n < length b) × Consumes old new (take n b) × IsAtEnd new
TakesAll (Err ending.Unread) old new b = Unit {0}
TakesAll (Err ending.End) old new b = ⊥
TakesAll (Err ending.Large) old new b = ⊥
TakesAll (Err ending.Broken) old new b = ⊥
TakesAll (Err ending.Touched) old new b = ⊥

-- ---- the numbers of the table that is lent: four for each slot, and some over, which change nothing
abbrev pub lent_size : ℕ → ℕ → ℕ
lent_size slots n = 4 * slots + n % 4

-- from one of so many numbers
unfoldable pub lent : ℕ → ℕ → ℕ → Option ℕ
lent numbers slots n =
    cond (ltb (numbers / 4) slots) None
    (cond (ltb numbers (lent_size slots n)) None
    (Some (lent_size slots n)))

abbrev pub pattern : ℕ
pattern = 2779096485

-- nothing but the number p
abbrev pub only : ℕ → List ℕ → Bool
only p t = list_all (λ n. n == p) t

-- from number i on, the numbers t are those in the bytes b, four for each
unfoldable pub same_from : List ℕ → List ℕ → ℕ → Bool
same_from [] b i = true
same_from (n ∷ t) b i = eqb n (four b (4 * i)) && same_from t b (i + 1)

unfoldable pub same_numbers : List ℕ → List ℕ → Bool
same_numbers t b = eqb (length b / 4) (length t) && same_from t b 0
