-- Which way a line runs: document 01, 'Direction'. Ports `dir_confirm` of smtp.rs, pop3.rs and imap.rs, and `clt_cmd`.
-- Assumes nothing.
use Rattle.std.specs.Prelude.{Bool, true, false, cond, not, ◌&&◌, ◌||◌, List, [], ◌∷◌, ℕ, ◌+◌, eqb, leb, length, take, get_or, Option, Some, None, is_some}
use Rattle.std.specs.Borrow.{Bor}
use Rattle.classes.specs.Classes.{is_letter, is_digit, is_upper}
use Rattle.reading.specs.Bytes.{starts_with, first_place, holds}
use Rattle.reading.specs.Text.{text}
use Rattle.direction.specs.declared.End.{End}
use Rattle.direction.specs.declared.Guess.{Guess}
use Rattle.direction.specs.declared.Guess.TheVariants.{AsGiven, Swapped, Unknown, OtherProtocol}
use Rattle.direction.specs.declared.Protocol.{Protocol}
use Rattle.direction.specs.declared.Protocol.TheVariants.{Smtp, Pop3, Imap}

-- document 01's number of each answer
abbrev pub guess_number : Guess → ℕ
guess_number AsGiven = 0
guess_number Swapped = 1
guess_number Unknown = 2
guess_number OtherProtocol = 3

-- document 01's number of each protocol
unfoldable pub protocol_of : ℕ → Option Protocol
protocol_of n = cond (eqb n 1) (Some Smtp) (cond (eqb n 2) (Some Pop3) (cond (eqb n 3) (Some Imap) None))

-- each protocol's port
abbrev pub port_of : Protocol → ℕ
port_of Smtp = 25
port_of Pop3 = 110
port_of Imap = 143

-- ---- the first bytes, as in each file's dir_confirm

-- a server of the protocol greets so
unfoldable pub greets : Protocol → List ℕ → Bool
greets Smtp l = starts_with (text "220 ") l || (starts_with (text "220-") l || (starts_with (text "421 ") l || starts_with (text "421-") l))
greets Pop3 l = starts_with (text "+OK ") l
greets Imap l = starts_with (text "* OK ") l

-- a byte of a tag
unfoldable pub is_tag_byte : ℕ → Bool
is_tag_byte b = is_letter b || (is_digit b || (eqb b 46 || (eqb b 43 || eqb b 45)))

-- all are bytes of a tag
unfoldable pub is_tag : List ℕ → Bool
is_tag [] = true
is_tag (b ∷ l) = is_tag_byte b && is_tag l

-- a space at p, among the first ten bytes: a tag before it, an upper-case letter behind it
unfoldable pub command_at : List ℕ → Option ℕ → Bool
command_at l (Some p) = is_tag (take p l) && is_upper (get_or l (p + 1) 0)
command_at l None = false

-- clt_cmd, byte by byte: it opens with a letter or digit, and the first space is as above
unfoldable pub clt_cmd : List ℕ → Bool
clt_cmd l = (is_letter (get_or l 0 0) || is_digit (get_or l 0 0)) && command_at l (first_place (holds 32 (take 10 l)) (take 10 l))

-- a client of the protocol opens so; of IMAP only ten bytes or more count
unfoldable pub commands : Protocol → List ℕ → Bool
commands Smtp l = starts_with (text "HELO ") l || starts_with (text "EHLO ") l
commands Pop3 l = starts_with (text "USER ") l
commands Imap l = leb 10 (length l) && clt_cmd l

-- ---- the answer

-- one side: whether its first payload is held, and the payload
pub record Side : Type 0 where
  pub port : ℕ
  pub held : Bool
  pub payload : List ℕ

abbrev pub side : ℕ → Bool → List ℕ → Side
side n h l = record { port = n; held = h; payload = l }

-- a side as the code has it: of a payload that is not held nothing is read
abbrev pub shown : Option (Bor (List ℕ)) → List ℕ
shown None = []
shown (Some l) = l.now

abbrev pub seen : End → Side
seen e = side e.port (is_some e.payload) (shown e.payload)

-- neither payload held: unknown; else by the server side's first bytes, then by the client side's
unfoldable pub by_payload : Protocol → Side → Side → Guess
by_payload p client server =
    cond (not client.held && not server.held) Unknown
    (cond (server.held && greets p server.payload) AsGiven
    (cond (server.held && commands p server.payload) Swapped
    (cond (client.held && greets p client.payload) Swapped
    AsGiven)))

-- the server side's port equal: as given; else the client side's: swapped; else by the payloads
unfoldable pub confirm : Protocol → Side → Side → Guess
confirm p client server =
    cond (eqb server.port (port_of p)) AsGiven (cond (eqb client.port (port_of p)) Swapped (by_payload p client server))

-- protocol 1 is SMTP, 2 POP3, 3 IMAP; any other number has its own answer
unfoldable pub guess : ℕ → Side → Side → Guess
guess n client server =
    cond (eqb n 1) (confirm Smtp client server)
    (cond (eqb n 2) (confirm Pop3 client server)
    (cond (eqb n 3) (confirm Imap client server)
    OtherProtocol))
