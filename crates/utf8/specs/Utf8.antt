-- Characters in bytes: UTF-8 as RFC 3629, section 3, has it, and which characters are white space.
-- Assumes nothing.
use Rattle.std.specs.Prelude.{Bool, cond, not, ◌&&◌, ◌||◌, List, [], ◌∷◌, ℕ, zero, suc, ◌+◌, ◌*◌, ◌-◌, eqb, leb, ltb, length, Option, Some, None}
use Rattle.classes.specs.Classes.{is_white}

abbrev pub between : ℕ → ℕ → ℕ → Bool
between first last c = leb first c && leb c last

-- ---- a character's number

-- how many octets it takes: up to U+007F one, up to U+07FF two, up to U+FFFF three, above four
unfoldable pub octets_of : ℕ → ℕ
octets_of c = cond (leb c 0x7f) 1 (cond (leb c 0x7ff) 2 (cond (leb c 0xffff) 3 4))

-- U+0000 to U+10FFFF, the surrogates U+D800 to U+DFFF left out
unfoldable pub is_scalar : ℕ → Bool
is_scalar c = leb c 0x10_ffff && not (between 0xd800 0xdfff c)

-- white space: 9 to 13 and 32, U+0085, U+00A0, U+1680, U+2000 to U+200A, U+2028, U+2029, U+202F, U+205F and U+3000
unfoldable pub is_space : ℕ → Bool
is_space c =
    is_white c
    || (eqb c 0x85
    || (eqb c 0xa0
    || (eqb c 0x1680 || (between 0x2000 0x200a c || (between 0x2028 0x2029 c || (eqb c 0x202f || (eqb c 0x205f || eqb c 0x3000)))))))

-- ---- the octets of a character

-- 10xxxxxx: an octet behind the first
unfoldable pub is_tail : ℕ → Bool
is_tail b = between 0x80 0xbf b

-- what n octets stand for: a number that is a character's and takes as many. In more octets than it takes it is no character
unfoldable pub lawful : ℕ → ℕ → Option ℕ
lawful n c = cond (eqb (octets_of c) n && is_scalar c) (Some c) None

-- n octets of which the bits so far are worth c and k are still to come, each with six bits more
unfoldable pub sequence : ℕ → ℕ → ℕ → List ℕ → Option ℕ
sequence n zero c l = lawful n c
sequence n (suc k) c [] = None
sequence n (suc k) c (b ∷ l) = cond (is_tail b) (sequence n k (c * 64 + (b - 0x80)) l) None

-- by its first octet: 0xxxxxxx, 110xxxxx, 1110xxxx or 11110xxx
unfoldable pub opened : ℕ → List ℕ → Option ℕ
opened b l =
    cond (ltb b 0x80) (Some b)
    (cond (ltb b 0xc0) None
    (cond (ltb b 0xe0) (sequence 2 1 (b - 0xc0) l)
    (cond (ltb b 0xf0) (sequence 3 2 (b - 0xe0) l) (cond (ltb b 0xf8) (sequence 4 3 (b - 0xf0) l) None))))

-- the character that a list opens with
unfoldable pub character : List ℕ → Option ℕ
character [] = None
character (b ∷ l) = opened b l

-- ---- the characters of a line

-- a character, and those behind the octets that it has besides its first
unfoldable pub onto : Option ℕ → (ℕ → List ℕ) → List ℕ
onto (Some c) behind = c ∷ behind (octets_of c - 1)
onto None behind = []

-- behind k octets, the characters up to where none stands
unfoldable pub behind : ℕ → List ℕ → List ℕ
behind k [] = []
behind zero (b ∷ l) = onto (character (b ∷ l)) (λ k. behind k l)
behind (suc k) (b ∷ l) = behind k l

unfoldable pub characters : List ℕ → List ℕ
characters l = behind 0 l

-- how many octets characters have in all
unfoldable pub size : List ℕ → ℕ
size [] = 0
size (c ∷ cs) = octets_of c + size cs

-- UTF-8: characters, up to the end
unfoldable pub is_utf8 : List ℕ → Bool
is_utf8 l = eqb (size (characters l)) (length l)

-- how many octets stand before the first white space
unfoldable pub dark_lead : List ℕ → ℕ
dark_lead [] = 0
dark_lead (c ∷ cs) = cond (is_space c) 0 (octets_of c + dark_lead cs)

-- how many octets are left without trailing white space
unfoldable pub dark_end : List ℕ → ℕ
dark_end [] = 0
dark_end (c ∷ cs) = cond (is_space c && eqb (dark_end cs) 0) 0 (octets_of c + dark_end cs)
