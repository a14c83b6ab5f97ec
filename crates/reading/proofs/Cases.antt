-- Document 01's cases of boundary q, and lines: the definitions, run.
-- Assumes nothing.
use mathlib.Core.Path.{◌≡◌, refl}
use mathlib.Core.Bool.{true, false}
use mathlib.Core.List.{[], ◌∷◌}
use Rattle.classes.specs.Classes.{upper_of, is_letter, is_upper}
use Rattle.reading.specs.Text.{text}
use Rattle.reading.specs.Bytes.{starts_with, same, ends_with, raised, first, first_place, holds, stands, found, contains}
use Rattle.reading.specs.Reading.{drop_end, clean, may_stand, delimits, a_line, two, delimiter, past, reach, got, short, parted, fetch}
use Rattle.std.specs.Prelude.{Some, None}

-- the place of the delimiter, and how far the read goes: content 3, ends at 8; content 0, ends at 3; none
pub boundary-q :
    first_place (delimits (text "q") (text "abc\r\n--q")) (text "abc\r\n--q")
    ∷ reach (delimiter (text "q")) (text "abc\r\n--q")
    ∷ first_place (delimits (text "q") (text "--q")) (text "--q")
    ∷ reach (delimiter (text "q")) (text "--q")
    ∷ reach (delimiter (text "q")) (text "x--q")
    ∷ []
    ≡ Some 5 ∷ Some 8 ∷ Some 0 ∷ Some 3 ∷ None ∷ []
unfolding reach first first_place past delimits may_stand ends_with same starts_with
boundary-q = refl

-- a bare LF before it does not count, a second CR does no harm, the first of two wins, `--qq` holds one, and it may lie at the end
pub further-q :
    reach (delimiter (text "q")) (text "abc\n--q")
    ∷ reach (delimiter (text "q")) (text "\r\r\n--q")
    ∷ reach (delimiter (text "q")) (text "\r\n--q\r\n--q")
    ∷ reach (delimiter (text "q")) (text "--qq")
    ∷ reach (delimiter (text "q")) (text "\n--q\r\n--q")
    ∷ reach (delimiter (text "q")) (text "\r\n--")
    ∷ reach (delimiter (text "")) (text "a\r\n--")
    ∷ []
    ≡ None ∷ Some 6 ∷ Some 5 ∷ Some 3 ∷ Some 9 ∷ None ∷ Some 5 ∷ []
unfolding reach first first_place past delimits may_stand ends_with same starts_with
further-q = refl

-- a line ends with, and includes, the first LF
pub lines :
    fetch a_line (text "")
    ∷ fetch a_line (text "ab\r")
    ∷ fetch a_line (text "\n")
    ∷ fetch a_line (text "ab\r\ncd\n")
    ∷ fetch a_line (text "\r\n\n")
    ∷ fetch two (text "a")
    ∷ fetch two (text "abc")
    ∷ []
    ≡ short ∷ short ∷ got (text "\n") [] ∷ got (text "ab\r\n") (text "cd\n") ∷ got (text "\r\n") (text "\n") ∷ short ∷ got (text "ab") (text "c") ∷ []
unfolding fetch parted reach first first_place past holds
lines = refl

-- a clean line drops its LF and one CR before it
pub clean-lines :
    clean (text "\n") ∷ clean (text "\r\n") ∷ clean (text "a\n") ∷ clean (text "a\r\n") ∷ clean (text "a\r\r\n") ∷ clean (text "a\rb\n") ∷ []
    ≡ text "" ∷ text "" ∷ text "a" ∷ text "a" ∷ text "a\r" ∷ text "a\rb" ∷ []
unfolding clean drop_end ends_with same starts_with
clean-lines = refl

-- words: exact, in any case, and somewhere
pub words :
    starts_with (text "MAIL") (text "MAIL FROM")
    ∷ starts_with (text "MAIL") (text "Mail FROM")
    ∷ starts_with (raised (text "mail")) (raised (text "MaIl x"))
    ∷ same (text "DATA") (text "DATA ")
    ∷ contains (raised (text "tls")) (raised (text "start TLS now"))
    ∷ contains (text ":") (text "no colon")
    ∷ []
    ≡ true ∷ false ∷ true ∷ false ∷ true ∷ false ∷ []
unfolding starts_with same raised contains found stands first first_place upper_of is_letter is_upper
words = refl
