-- Document 01's cases of POP3 answers and IMAP appends, and cases that are easily missed: the definitions, run.
-- Assumes nothing.
use mathlib.Core.Path.{◌≡◌, refl}
use mathlib.Core.Bool.{true, false}
use mathlib.Core.List.{List, [], ◌∷◌, ◌++◌}
use Prim.Native.Nat.{ℕ, zero, suc, ◌≤◌}
use native.Mathlib.Omega.{arith}
use lib.ListN.{replicate, length-replicate}
use Rattle.classes.specs.Classes.{upper_of, is_letter, is_upper, is_white, is_blank, is_pop_white, is_digit}
use Rattle.reading.specs.Bytes.{starts_with, same, ends_with, raised, first, first_place, holds, stands, found, contains}
use Rattle.reading.specs.Text.{text}
use Rattle.utf8.specs.Utf8.{octets_of, is_scalar, is_space, is_tail, lawful, sequence, opened, character, onto, behind, characters, size, is_utf8, dark_lead, dark_end}
use Rattle.fields.specs.Imap.{tag, append_follows, is_append, dark, text_end, trimmed, braced, from_brace, size_of, append_size, holds_colon}
use Rattle.fields.specs.Pop3.{stls_answer, octets, octets_follow, numbered, retr_answer}
use Rattle.fields.specs.Runs.{lead, last, last_place, through, worth_behind, worth}
use Rattle.fields.proofs.Compared.{longer}

-- ---- POP3

-- the largest number retrieves and the next does not; zeros in front and bytes behind do no harm; a blank must stand before the number
pub retrieves :
    retr_answer (text "+OK 4294967295 octets")
    ∷ retr_answer (text "+OK 4294967296 octets")
    ∷ retr_answer (text "+OK 0000000000007 octetsX")
    ∷ retr_answer (text "+OK12 octets")
    ∷ []
    ≡ true ∷ false ∷ true ∷ false ∷ []
unfolding retr_answer numbered octets octets_follow worth worth_behind lead is_pop_white is_digit starts_with
retrieves = refl

-- white space on both sides of the number, of four kinds; a number must stand there
pub further-retrieves :
    retr_answer (text "+OK 1 octets tls")
    ∷ retr_answer (text "+OK\t\r1\n octets")
    ∷ retr_answer (text "+OK 0octets")
    ∷ retr_answer (text "+OK octets")
    ∷ retr_answer (text "+OK 1 Octets")
    ∷ retr_answer (text "+ok 1 octets")
    ∷ retr_answer (text "+OK" ++ (11 ∷ text "1 octets"))
    ∷ []
    ≡ true ∷ true ∷ false ∷ false ∷ false ∷ false ∷ false ∷ []
unfolding retr_answer numbered octets octets_follow worth worth_behind lead is_pop_white is_digit starts_with
further-retrieves = refl

-- the number by itself: zeros, 1, the largest and the next, each with a zero in front, eleven digits. Nine bytes are too much if the first is worth 207
pub numbers :
    octets (text "0")
    ∷ octets (text "00")
    ∷ octets (text "1")
    ∷ octets (text "4294967295")
    ∷ octets (text "4294967296")
    ∷ octets (text "04294967295")
    ∷ octets (text "04294967296")
    ∷ octets (text "10000000000")
    ∷ octets (255 ∷ text "00000000")
    ∷ []
    ≡ true ∷ true ∷ true ∷ true ∷ false ∷ true ∷ false ∷ false ∷ false ∷ []
unfolding octets worth worth_behind
numbers = refl

-- however many zeros stand in front; and nines, more than ten
pub many_zeros : (n : ℕ) (l : List ℕ) → octets (replicate n 48 ++ l) ≡ octets l
unfolding octets worth worth_behind
many_zeros zero l = refl
many_zeros (suc n) l = many_zeros n l

pub many_nines : (n : ℕ) → 10 ≤ n → octets (replicate (suc n) 57) ≡ false
unfolding octets worth worth_behind lead is_digit
many_nines n h = longer (replicate (suc n) 57) (text "4294967295") (omega arith) refl (omega (arith, length-replicate {A = ℕ} n 57))

pub millions : (octets (replicate 1000000 48 ++ text "1") ≡ octets (text "1")) × (octets (replicate 1000000 57) ≡ false)
millions = (many_zeros 1000000 (text "1"), many_nines 999999 (omega arith))

-- "tls" in any case, behind +OK
pub tls-answers :
    stls_answer (text "+OK x tLs")
    ∷ stls_answer (text "+OK 1 octets tls")
    ∷ stls_answer (text "+OKTLS")
    ∷ stls_answer (text "+OK t ls")
    ∷ stls_answer (text "-ERR tls")
    ∷ []
    ≡ true ∷ true ∷ true ∷ false ∷ false ∷ []
unfolding stls_answer contains found stands first first_place starts_with raised upper_of is_letter is_upper
tls-answers = refl

-- ---- IMAP

-- a tag and blanks, one each at least, then APPEND, exactly
pub appends :
    is_append (text "a APPEND x")
    ∷ is_append (text "a\t APPENDX")
    ∷ is_append (text "aAPPEND")
    ∷ is_append (text " APPEND")
    ∷ is_append (text "a b APPEND")
    ∷ is_append (text "a append")
    ∷ is_append (text "a" ++ (11 ∷ text "APPEND"))
    ∷ is_append (text "a" ++ (11 ∷ text " APPEND"))
    ∷ is_append (text "")
    ∷ []
    ≡ true ∷ true ∷ false ∷ false ∷ false ∷ false ∷ false ∷ false ∷ false ∷ []
unfolding is_append tag append_follows is_utf8 characters behind onto character opened octets_of size dark_lead is_space lead is_white is_blank starts_with
appends = refl

-- the last { opens the size, and bytes may stand behind its }; a sign or no digit is 0; so is 2^64, but not the number below it
pub sizes :
    append_size (text "{10}}")
    ∷ append_size (text "{10+}")
    ∷ append_size (text "{}")
    ∷ append_size (text "{18446744073709551616}")
    ∷ append_size (text "{18446744073709551615}")
    ∷ []
    ≡ 10 ∷ 0 ∷ 0 ∷ 0 ∷ 18446744073709551615 ∷ []
unfolding append_size size_of trimmed text_end is_utf8 characters behind onto character opened octets_of size dark_end is_space through dark from_brace braced worth
    worth_behind last last_place holds lead is_white is_digit ends_with same starts_with
sizes = refl

-- white space behind, two pairs of braces, bytes between two }, no closing brace, none that opens, nothing
pub further-sizes :
    append_size (text "a APPEND x {11} \t\r\n" ++ (11 ∷ 12 ∷ []))
    ∷ append_size (text "{3} {07}")
    ∷ append_size (text "{3}x}")
    ∷ append_size (text "{3} {}")
    ∷ append_size (text "{3")
    ∷ append_size (text "3}")
    ∷ append_size (text " ")
    ∷ []
    ≡ 11 ∷ 7 ∷ 3 ∷ 0 ∷ 0 ∷ 0 ∷ 0 ∷ []
unfolding append_size size_of trimmed text_end is_utf8 characters behind onto character opened octets_of size dark_end is_space through dark from_brace braced worth
    worth_behind last last_place holds lead is_white is_digit ends_with same starts_with
further-sizes = refl

-- document 02, W8. White space ends a tag: U+0085, U+3000, not U+200B nor the letter e with an accent; where the line is no UTF-8, no byte above 127 does;
-- behind the tag only blanks count
pub wide-appends :
    is_append (0xc2 ∷ 0x85 ∷ text " APPEND")
    ∷ is_append (0x61 ∷ 0xe3 ∷ 0x80 ∷ 0x80 ∷ 0x62 ∷ text " APPEND")
    ∷ is_append (0xe2 ∷ 0x80 ∷ 0x8b ∷ text " APPEND")
    ∷ is_append (0xc3 ∷ 0xa9 ∷ text " APPEND")
    ∷ is_append (0x85 ∷ text " APPEND")
    ∷ is_append (0xc2 ∷ 0x85 ∷ text " APPEND" ++ (0x80 ∷ []))
    ∷ is_append (0x61 ∷ 0xc2 ∷ 0xa0 ∷ text "APPEND")
    ∷ is_append (0x61 ∷ 0x20 ∷ 0xc2 ∷ 0xa0 ∷ text "APPEND")
    ∷ []
    ≡ false ∷ false ∷ true ∷ true ∷ true ∷ true ∷ false ∷ false ∷ []
unfolding is_append tag append_follows is_utf8 characters behind onto character opened sequence lawful is_tail is_scalar octets_of size dark_lead is_space lead
    is_white is_blank starts_with
wide-appends = refl

-- it is dropped behind the brace, mixed with other white space; a space in two octets, one octet alone and a surrogate are none, and keep a line from being UTF-8
pub wide-sizes :
    append_size (text "{7}" ++ (0xc2 ∷ 0xa0 ∷ []))
    ∷ append_size (text "{7} " ++ (0xe2 ∷ 0x80 ∷ 0x83 ∷ 9 ∷ 0xe3 ∷ 0x80 ∷ 0x80 ∷ 11 ∷ []))
    ∷ append_size (text "{7}" ++ (0xe2 ∷ 0x80 ∷ 0x8b ∷ []))
    ∷ append_size (text "{7}" ++ (0xc3 ∷ 0xa9 ∷ 0xc2 ∷ 0xa0 ∷ []))
    ∷ append_size (text "{7}" ++ (0xc0 ∷ 0xa0 ∷ []))
    ∷ append_size (text "{7}" ++ (0xa0 ∷ []))
    ∷ append_size (0xed ∷ 0xa0 ∷ 0x80 ∷ text "{7}" ++ (0xc2 ∷ 0xa0 ∷ []))
    ∷ append_size (0xed ∷ 0xa0 ∷ 0x80 ∷ text "{7} ")
    ∷ []
    ≡ 7 ∷ 7 ∷ 0 ∷ 0 ∷ 0 ∷ 0 ∷ 0 ∷ 7 ∷ []
unfolding append_size size_of trimmed text_end is_utf8 characters behind onto character opened sequence lawful is_tail is_scalar octets_of size dark_end is_space through
    dark from_brace braced worth worth_behind last last_place holds lead is_white is_digit ends_with same starts_with
wide-sizes = refl

pub colons :
    holds_colon (text "T: u\r\n") ∷ holds_colon (text ":") ∷ holds_colon (text "b NOOP\r\n") ∷ []
    ≡ true ∷ true ∷ false ∷ []
unfolding holds_colon contains found stands first first_place starts_with
colons = refl
