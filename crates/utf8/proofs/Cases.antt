-- The definitions, run: the examples of RFC 3629, section 7, the edges of its table, what is no character, and white space with its neighbours.
-- Assumes nothing.
use mathlib.Core.Path.{◌≡◌, refl}
use mathlib.Core.Bool.{true, false}
use mathlib.Core.List.{List, [], ◌∷◌, map}
use Prim.Native.Nat.{ℕ}
use lib.ListN.{replicate}
use Rattle.classes.specs.Classes.{is_white}
use Rattle.utf8.specs.Utf8.{octets_of, is_scalar, is_space, is_tail, lawful, sequence, opened, character, onto, behind, characters, size, is_utf8, dark_lead, dark_end}

-- A, not identical to, Alpha and a full stop; three of hangugeo; three of nihongo; a byte order mark and U+233B4
pub examples :
    characters (0x41 ∷ 0xe2 ∷ 0x89 ∷ 0xa2 ∷ 0xce ∷ 0x91 ∷ 0x2e ∷ [])
    ∷ characters (0xed ∷ 0x95 ∷ 0x9c ∷ 0xea ∷ 0xb5 ∷ 0xad ∷ 0xec ∷ 0x96 ∷ 0xb4 ∷ [])
    ∷ characters (0xe6 ∷ 0x97 ∷ 0xa5 ∷ 0xe6 ∷ 0x9c ∷ 0xac ∷ 0xe8 ∷ 0xaa ∷ 0x9e ∷ [])
    ∷ characters (0xef ∷ 0xbb ∷ 0xbf ∷ 0xf0 ∷ 0xa3 ∷ 0x8e ∷ 0xb4 ∷ [])
    ∷ []
    ≡ (0x41 ∷ 0x2262 ∷ 0x391 ∷ 0x2e ∷ [])
    ∷ (0xd55c ∷ 0xad6d ∷ 0xc5b4 ∷ [])
    ∷ (0x65e5 ∷ 0x672c ∷ 0x8a9e ∷ [])
    ∷ (0xfeff ∷ 0x2_33b4 ∷ [])
    ∷ []
unfolding characters behind onto character opened sequence lawful is_tail is_scalar octets_of
examples = refl

-- the first and the last number of each row, and those around the surrogates
pub edges :
    characters (0 ∷ 0x7f ∷ 0xc2 ∷ 0x80 ∷ 0xdf ∷ 0xbf ∷ 0xe0 ∷ 0xa0 ∷ 0x80 ∷ 0xef ∷ 0xbf ∷ 0xbf ∷ [])
    ∷ characters (0xf0 ∷ 0x90 ∷ 0x80 ∷ 0x80 ∷ 0xf4 ∷ 0x8f ∷ 0xbf ∷ 0xbf ∷ 0xed ∷ 0x9f ∷ 0xbf ∷ 0xee ∷ 0x80 ∷ 0x80 ∷ [])
    ∷ []
    ≡ (0 ∷ 0x7f ∷ 0x80 ∷ 0x7ff ∷ 0x800 ∷ 0xffff ∷ [])
    ∷ (0x1_0000 ∷ 0x10_ffff ∷ 0xd7ff ∷ 0xe000 ∷ [])
    ∷ []
unfolding characters behind onto character opened sequence lawful is_tail is_scalar octets_of
edges = refl

-- spaces in two, three and four octets, the last number of a row in one octet too many, the first and the last surrogate, a number above the last, lone and
-- missing tails, first octets that there are not, a whole character before a tail
abbrev broken : List (List ℕ)
broken =
    (0xc0 ∷ 0xa0 ∷ [])
    ∷ (0xe0 ∷ 0x80 ∷ 0xa0 ∷ [])
    ∷ (0xf0 ∷ 0x80 ∷ 0x80 ∷ 0xa0 ∷ [])
    ∷ (0xc1 ∷ 0xbf ∷ [])
    ∷ (0xe0 ∷ 0x9f ∷ 0xbf ∷ [])
    ∷ (0xf0 ∷ 0x8f ∷ 0xbf ∷ 0xbf ∷ [])
    ∷ (0xed ∷ 0xa0 ∷ 0x80 ∷ [])
    ∷ (0xed ∷ 0xbf ∷ 0xbf ∷ [])
    ∷ (0xf4 ∷ 0x90 ∷ 0x80 ∷ 0x80 ∷ [])
    ∷ (0x80 ∷ [])
    ∷ (0xc2 ∷ [])
    ∷ (0xe2 ∷ 0x80 ∷ [])
    ∷ (0xe2 ∷ 0x80 ∷ 0x41 ∷ [])
    ∷ (0xf8 ∷ 0x88 ∷ 0x80 ∷ 0x80 ∷ 0x80 ∷ [])
    ∷ (0xff ∷ [])
    ∷ (0xc2 ∷ 0xa0 ∷ 0xa0 ∷ [])
    ∷ []

pub none_utf8 : map is_utf8 broken ≡ replicate 16 false
unfolding is_utf8 size characters behind onto character opened sequence lawful is_tail is_scalar octets_of
none_utf8 = refl

-- above 127
abbrev whites : List ℕ
whites =
    0x85 ∷ 0xa0 ∷ 0x1680 ∷ 0x2000 ∷ 0x2001 ∷ 0x2002 ∷ 0x2003 ∷ 0x2004 ∷ 0x2005 ∷ 0x2006 ∷ 0x2007 ∷ 0x2008 ∷ 0x2009 ∷ 0x200a
    ∷ 0x2028 ∷ 0x2029 ∷ 0x202f ∷ 0x205f ∷ 0x3000 ∷ []

-- beside those, and what other lists call white space
abbrev darks : List ℕ
darks =
    8 ∷ 14 ∷ 0x1c ∷ 0x1f ∷ 0x21 ∷ 0x84 ∷ 0x86 ∷ 0x9f ∷ 0xa1 ∷ 0x167f ∷ 0x1681 ∷ 0x180e ∷ 0x1fff ∷ 0x200b ∷ 0x2027 ∷ 0x202a
    ∷ 0x202e ∷ 0x2030 ∷ 0x205e ∷ 0x2060 ∷ 0x2fff ∷ 0x3001 ∷ 0xfeff ∷ []

pub spaces : (map is_space whites ≡ replicate 19 true) × (map is_space darks ≡ replicate 23 false)
unfolding is_space is_white
spaces = (refl, refl)

-- before the first white space, and without the trailing: the characters' octets, never a part of one
pub counted :
    dark_lead (characters (0xc3 ∷ 0xa9 ∷ 0x61 ∷ 0xe2 ∷ 0x80 ∷ 0x83 ∷ 0x62 ∷ []))
    ∷ dark_end (characters (0x61 ∷ 0xc2 ∷ 0xa0 ∷ 0xc3 ∷ 0xa9 ∷ 0xe2 ∷ 0x80 ∷ 0x83 ∷ 0x20 ∷ []))
    ∷ dark_lead (characters (0xc2 ∷ 0xa0 ∷ []))
    ∷ dark_end (characters (0x20 ∷ 0xc2 ∷ 0xa0 ∷ []))
    ∷ []
    ≡ 3 ∷ 5 ∷ 0 ∷ 0 ∷ []
unfolding dark_lead dark_end is_space is_white characters behind onto character opened sequence lawful is_tail is_scalar octets_of
counted = refl
