-- What a line of an IMAP client says: document 01, 'IMAP client', with document 02's W8. Ports the line tests of imap.rs.
-- Assumes nothing.
use Rattle.std.specs.Prelude.{Bool, cond, not, ◌&&◌, List, ℕ, ◌+◌, ◌^◌, ltb, take, drop, get_or, Option, Some, None}
use Rattle.classes.specs.Classes.{is_blank, is_digit, is_white}
use Rattle.reading.specs.Bytes.{starts_with, ends_with, holds, contains}
use Rattle.reading.specs.Text.{text}
use Rattle.utf8.specs.Utf8.{characters, is_utf8, dark_lead, dark_end}
use Rattle.fields.specs.Runs.{dark_byte, lead, last_place, through, worth}

-- behind the tag: blanks, one at least, then APPEND
unfoldable pub append_follows : List ℕ → Bool
append_follows l = ltb 0 (lead is_blank l) && starts_with (text "APPEND") (drop (lead is_blank l) l)

-- the tag, up to white space: of characters where the line is UTF-8, else of bytes
unfoldable pub tag : List ℕ → ℕ
tag l = cond (is_utf8 l) (dark_lead (characters l)) (lead dark_byte l)

-- a tag and blanks, at least one byte each, then APPEND open it
unfoldable pub is_append : List ℕ → Bool
is_append l = ltb 0 (tag l) && append_follows (drop (tag l) l)

-- the byte at p is not white
unfoldable pub dark : List ℕ → ℕ → Bool
dark l p = not (is_white (get_or l p 0))

-- where trailing white space begins: behind the last character that is not white where the line is UTF-8, else behind the last such byte
unfoldable pub text_end : List ℕ → ℕ
text_end l = cond (is_utf8 l) (dark_end (characters l)) (through (last_place (dark l) l))

-- without trailing white space
unfoldable pub trimmed : List ℕ → List ℕ
trimmed l = take (text_end l) l

-- behind the {: digits, one at least, and }, worth below 2^64; otherwise 0
unfoldable pub braced : List ℕ → ℕ
braced l =
    cond (ltb 0 (lead is_digit l) && (starts_with (text "}") (drop (lead is_digit l) l) && ltb (worth (take (lead is_digit l) l)) (2 ^ 64)))
    (worth (take (lead is_digit l) l)) 0

-- the text from the last { on
unfoldable pub from_brace : List ℕ → Option ℕ → ℕ
from_brace l (Some p) = braced (drop (p + 1) l)
from_brace l None = 0

-- a literal's size: drop trailing white space; if it ends in }, what the last { opens; otherwise 0
unfoldable pub size_of : List ℕ → ℕ
size_of l = cond (ends_with (text "}") l) (from_brace l (last_place (holds 123 l) l)) 0

unfoldable pub append_size : List ℕ → ℕ
append_size l = size_of (trimmed l)

-- a line that holds a colon
unfoldable pub holds_colon : List ℕ → Bool
holds_colon l = contains (text ":") l
