-- What the program writes for a record: oracle/README.md, 'Formats', and the words of its own. The text of a case, behind which another may follow, or why none does.
-- Assumes nothing.
use Rattle.std.specs.Prelude.{◌≡◌, cond, List, ℕ, ◌*◌, ◌-◌, ◌/◌, ◌≤◌, ◌<◌, eqb, ltb, length, take, drop, replicate, Option, Some, None, Result, Ok, Err}
use Rattle.cases.specs.Cases.{NextHead, Reads, guess_of, lent, pattern, only}
use Rattle.cases.specs.declared.Ending.{Ending}
use Rattle.cases.specs.declared.Ending.TheVariants.{Large, Broken, Touched}
use Rattle.cases.specs.declared.Head.{Head}
use Rattle.letters.specs.Letters.{entry_of}
use Rattle.rules.specs.Sessions.{answer_of}
use Rattle.rules.specs.declared.Entry.{Entry}
use Rattle.events.specs.Table.{Final}
use Rattle.listing.specs.Listing.{Pasted, word, listing}

-- ---- what is said of a record

-- a direction guess: its number on a line
unfoldable pub guess_said : Option ℕ → Result (List ℕ) Ending
guess_said (Some n) = Ok (word n 10)
guess_said None = Err Broken

-- a session's answer: its listing, if that has room for certain and no number behind the events was written
unfoldable pub listed : ℕ → Final → Result (List ℕ) Ending
listed room f =
    cond (ltb ((room - 63) / 84) f.count) (Err Large)
    (cond (only pattern (drop (4 * f.count) f.table)) (Ok (listing f))
    (Err Touched))

-- a session, whose table is lent from one of so many numbers and holds nothing but the pattern
unfoldable pub lent_said : Entry → Option ℕ → ℕ → List ℕ → Result (List ℕ) Ending
lent_said e (Some n) room s = listed room (answer_of e (replicate n pattern) s)
lent_said e None room s = Err Large

unfoldable pub session_said : Option Entry → ℕ → ℕ → ℕ → List ℕ → Result (List ℕ) Ending
session_said (Some e) slots numbers room s = lent_said e (lent numbers slots (length s)) room s
session_said None slots numbers room s = Err Broken

-- by the letter: D asks for a direction, the entries' letters for a session
unfoldable pub said_of : ℕ → ℕ → ℕ → ℕ → List ℕ → Result (List ℕ) Ending
said_of letter slots numbers room s = cond (eqb letter 68) (guess_said (guess_of s)) (session_said (entry_of letter) slots numbers room s)

-- ---- what a read can come to; nothing is known of the bytes before they are read

-- behind the head h, with the buffer b afterwards: too many bytes for the buffer, or not all of them, or all
pub data OfRecord (h : Head) (b : List ℕ) (numbers room : ℕ) : Result (List ℕ) Ending → Type 0 where
  large : length b < h.length → OfRecord h b numbers room (Err Large)
  partly : {e : Ending} → Reads (Err e) → OfRecord h b numbers room (Err e)
  whole : h.length ≤ length b → OfRecord h b numbers room (said_of h.letter h.slots numbers room (take h.length b))

-- where a record may begin: no head, or one and what stands behind it
pub data OfInput (b : List ℕ) (numbers room : ℕ) : Result (List ℕ) Ending → Type 0 where
  headless : {e : Ending} → NextHead (Err e) → OfInput b numbers room (Err e)
  behind : {x : Result (List ℕ) Ending} {h : Head} → NextHead (Ok h) → OfRecord h b numbers room x → OfInput b numbers room x

-- ---- how it is shown

-- o has become u, at whose front the bytes stand, so many of them; or why there are none, and o stayed
abbrev pub Shows : List ℕ → Result (List ℕ) Ending → Result ℕ Ending → List ℕ → Type 0
Shows o (Ok t) (Ok n) u = Pasted o 0 t n u × (n ≤ length u)
Shows o (Ok t) (Err f) u = ⊥
Shows o (Err e) (Ok n) u = ⊥
Shows o (Err e) (Err f) u = (e ≡ f) × (u ≡ o)

-- it shows one of the texts that can be
pub record ShowsOne (can : Result (List ℕ) Ending → Type 0) (o : List ℕ) (r : Result ℕ Ending) (u : List ℕ) : Type 0 where
  pub said : Result (List ℕ) Ending
  pub one : can said
  pub shows : Shows o said r u
