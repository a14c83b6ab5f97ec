-- Directions by ports and by first bytes: the definitions, run.
-- Assumes nothing.
use mathlib.Core.Path.{◌≡◌, refl}
use mathlib.Core.Bool.{true, false}
use mathlib.Core.List.{[], ◌∷◌, map}
use Prim.Native.Nat.{ℕ}
use Prim.Native.String.{String}
use Rattle.classes.specs.Classes.{is_letter, is_digit, is_upper}
use Rattle.reading.specs.Bytes.{starts_with, first, first_place, holds}
use Rattle.reading.specs.Text.{text}
use Rattle.direction.specs.Direction.{Side, side, guess_number, guess, confirm, by_payload, greets, commands, clt_cmd, command_at, is_tag, is_tag_byte}
use Rattle.direction.specs.declared.Guess.{Guess}
use Rattle.direction.specs.declared.Guess.TheVariants.{AsGiven, Swapped, Unknown, OtherProtocol}

-- a side with its first payload held, and one with it not held
abbrev says : ℕ → String → Side
says n l = side n true (text l)

abbrev mute : ℕ → String → Side
mute n l = side n false (text l)

-- the answer at other ports, both payloads held
abbrev heard : ℕ → String → String → Guess
heard n client server = guess n (says 1024 client) (says 1025 server)

pub numbers : guess_number AsGiven ∷ guess_number Swapped ∷ guess_number Unknown ∷ guess_number OtherProtocol ∷ [] ≡ 0 ∷ 1 ∷ 2 ∷ 3 ∷ []
numbers = refl

-- the server side's port comes first, then the client side's, and both come before the payloads; another protocol's port says nothing
pub ports :
    guess 1 (mute 25 "") (mute 25 "")
    ∷ guess 1 (mute 25 "") (mute 1025 "")
    ∷ guess 1 (mute 1024 "") (mute 25 "")
    ∷ guess 1 (says 1024 "220 a") (says 25 "HELO a")
    ∷ guess 1 (says 25 "HELO a") (says 1025 "220 a")
    ∷ guess 1 (mute 110 "") (mute 143 "")
    ∷ guess 2 (mute 110 "") (mute 110 "")
    ∷ guess 2 (mute 110 "") (mute 25 "")
    ∷ guess 2 (mute 143 "") (mute 25 "")
    ∷ guess 3 (mute 143 "") (mute 143 "")
    ∷ guess 3 (mute 143 "") (mute 110 "")
    ∷ guess 3 (mute 25 "") (mute 110 "")
    ∷ []
    ≡ AsGiven
    ∷ Swapped
    ∷ AsGiven
    ∷ AsGiven
    ∷ Swapped
    ∷ Unknown
    ∷ AsGiven
    ∷ Swapped
    ∷ Unknown
    ∷ AsGiven
    ∷ Swapped
    ∷ Unknown
    ∷ []
unfolding guess confirm by_payload
ports = refl

-- a payload that is not held is not asked: each of these would decide
pub not-held :
    guess 1 (mute 1024 "220 a") (mute 1025 "EHLO a")
    ∷ guess 1 (says 1024 "a") (mute 1025 "EHLO a")
    ∷ guess 1 (says 1024 "220 a") (mute 1025 "220 a")
    ∷ guess 1 (mute 1024 "220 a") (says 1025 "a")
    ∷ guess 2 (mute 1024 "+OK a") (mute 1025 "USER a")
    ∷ guess 2 (says 1024 "a") (mute 1025 "USER a")
    ∷ guess 2 (mute 1024 "+OK a") (says 1025 "a")
    ∷ guess 3 (mute 1024 "* OK a") (mute 1025 "a1 LOGIN b")
    ∷ guess 3 (says 1024 "a") (mute 1025 "a1 LOGIN b")
    ∷ guess 3 (mute 1024 "* OK a") (says 1025 "a")
    ∷ []
    ≡ Unknown ∷ AsGiven ∷ Swapped ∷ AsGiven ∷ Unknown ∷ AsGiven ∷ AsGiven ∷ Unknown ∷ AsGiven ∷ AsGiven ∷ []
unfolding guess confirm by_payload greets commands starts_with
not-held = refl

-- SMTP: a server's greeting on either side, a client's on the server side alone, and near misses
pub smtp-bytes :
    heard 1 "220 a" "220 a"
    ∷ heard 1 "220 a" "220-a"
    ∷ heard 1 "220 a" "421 a"
    ∷ heard 1 "220 a" "421-a"
    ∷ heard 1 "" "HELO a"
    ∷ heard 1 "" "EHLO "
    ∷ heard 1 "HELO a" "EHLO a"
    ∷ heard 1 "220 " ""
    ∷ heard 1 "220-a" ""
    ∷ heard 1 "421 a" "MAIL"
    ∷ heard 1 "421-a" ""
    ∷ heard 1 "HELO a" ""
    ∷ heard 1 "220" "HELO"
    ∷ heard 1 "221 a" "helo a"
    ∷ heard 1 "+OK a" "USER a"
    ∷ heard 1 "" ""
    ∷ []
    ≡ AsGiven
    ∷ AsGiven
    ∷ AsGiven
    ∷ AsGiven
    ∷ Swapped
    ∷ Swapped
    ∷ Swapped
    ∷ Swapped
    ∷ Swapped
    ∷ Swapped
    ∷ Swapped
    ∷ AsGiven
    ∷ AsGiven
    ∷ AsGiven
    ∷ AsGiven
    ∷ AsGiven
    ∷ []
unfolding guess confirm by_payload greets commands starts_with
smtp-bytes = refl

-- POP3 and IMAP greetings
pub other-bytes :
    heard 2 "+OK a" "+OK a"
    ∷ heard 2 "" "USER a"
    ∷ heard 2 "+OK a" ""
    ∷ heard 2 "USER a" ""
    ∷ heard 2 "+OK\r\n" "USER"
    ∷ heard 3 "* OK a" "* OK a"
    ∷ heard 3 "* OK " ""
    ∷ heard 3 "* OK" ""
    ∷ heard 3 "* ok a" ""
    ∷ heard 3 "a1 LOGIN b" ""
    ∷ []
    ≡ AsGiven ∷ Swapped ∷ Swapped ∷ AsGiven ∷ AsGiven ∷ AsGiven ∷ Swapped ∷ AsGiven ∷ AsGiven ∷ AsGiven ∷ []
unfolding guess confirm by_payload greets commands starts_with clt_cmd is_letter is_digit
other-bytes = refl

-- IMAP commands: nine bytes do not count and ten do, the space may stand at 9 and not at 10, with an upper-case letter behind it;
-- a tag opens with a letter or digit and may go on with . + -
pub command-bytes :
    map (heard 3 "")
    ("a1 LOGIN "
    ∷ "a1 LOGIN b"
    ∷ "a23456789 "
    ∷ "a23456789 N"
    ∷ "a234567890 N"
    ∷ "a.+-b NOOP"
    ∷ "1 LOGOUT\r\n"
    ∷ "+1 LOGIN b"
    ∷ ".1 LOGIN b"
    ∷ " LOGIN b c"
    ∷ "a1 login b"
    ∷ "a1  LOGIN b"
    ∷ "a* LOGIN b"
    ∷ "a1LOGINabc"
    ∷ [])
    ≡ AsGiven
    ∷ Swapped
    ∷ AsGiven
    ∷ Swapped
    ∷ AsGiven
    ∷ Swapped
    ∷ Swapped
    ∷ AsGiven
    ∷ AsGiven
    ∷ AsGiven
    ∷ AsGiven
    ∷ AsGiven
    ∷ AsGiven
    ∷ AsGiven
    ∷ []
unfolding guess confirm by_payload greets commands starts_with clt_cmd command_at is_tag is_tag_byte is_letter is_digit is_upper first first_place holds
command-bytes = refl

-- a byte above 127 is no letter: first, in the tag, behind the space; elsewhere it does no harm
pub high-bytes :
    clt_cmd (233 ∷ text "1 LOGIN b")
    ∷ clt_cmd (97 ∷ 233 ∷ text " LOGIN b")
    ∷ clt_cmd (97 ∷ 49 ∷ 32 ∷ 201 ∷ text "OGIN b")
    ∷ clt_cmd (97 ∷ 49 ∷ 32 ∷ 76 ∷ 201 ∷ text "GIN b")
    ∷ []
    ≡ false ∷ false ∷ false ∷ true ∷ []
unfolding clt_cmd command_at is_tag is_tag_byte is_letter is_digit is_upper first first_place holds
high-bytes = refl

-- any other protocol number, whatever the sides
pub other-protocol :
    guess 0 (says 25 "220 a") (says 25 "220 a") ∷ guess 4 (says 143 "* OK a") (mute 1025 "") ∷ guess 4294967295 (mute 0 "") (mute 0 "") ∷ []
    ≡ OtherProtocol ∷ OtherProtocol ∷ OtherProtocol ∷ []
unfolding guess
other-protocol = refl
