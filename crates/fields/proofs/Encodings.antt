-- What a header's lines say of the encoding, all of them together: document 02, W1, in its own words.
-- Assumes nothing.
use mathlib.Core.Path.{◌≡◌, refl, sym, ap, ◌∙◌}
use mathlib.Core.Bool.{Bool, true, false, cond, ◌||◌}
use mathlib.Core.List.{List, [], ◌∷◌, ◌++◌}
use Rattle.std.specs.Prelude.{Option, None, Some}
use Prim.Native.Nat.{ℕ, ◌≤◌, ◌<◌}
use Prim.Native.String.{String}
use native.Mathlib.Omega.{arith}
use lib.Dec.{eqb, ltb}
use lib.ListN.{length, drop}
use borrow.Author.Tests.{le-ltb, ltb-true, ltb-false}
use Rattle.events.specs.Events.{encoding_number}
use Rattle.events.specs.declared.Encoding.{Encoding}
use Rattle.events.specs.declared.Encoding.TheVariants.{Unsaid, Bit7, Bit8, Binary, QuotedPrintable, Base64, Unrecognised}
use Rattle.reading.specs.Bytes.{starts_with, same, raised}
use Rattle.reading.specs.Text.{text}
use Rattle.reading.proofs.Places.{by_test}
use Rattle.fields.specs.Common.{encoding_field, encoding_named, behind_spaces, transfer_encoding, Known, unknown, rank, first_encoding, by_type, by_ext, by_boundary, scanned, content_type, content_type_ext}
use Rattle.reading.specs.declared.Span.{Span}
use Rattle.fields.specs.declared.common.ContentType.{ContentType}
use Rattle.fields.specs.declared.common.ContentType.TheVariants.{Other, Plain, Bounded}

-- ---- a line behind what is known
below_two : (x : Encoding) → rank x ≤ 2
below_two Unsaid = omega arith
below_two Bit7 = omega arith
below_two Bit8 = omega arith
below_two Binary = omega arith
below_two QuotedPrintable = omega arith
below_two Base64 = omega arith
below_two Unrecognised = omega arith

unrecognised : (e : Encoding) → 1 ≤ rank e → rank e ≤ 1 → e ≡ Unrecognised
unrecognised Unsaid h g = absurd (omega arith)
unrecognised Bit7 h g = absurd (omega arith)
unrecognised Bit8 h g = absurd (omega arith)
unrecognised Binary h g = absurd (omega arith)
unrecognised QuotedPrintable h g = absurd (omega arith)
unrecognised Base64 h g = absurd (omega arith)
unrecognised Unrecognised h g = refl

-- a valid one stays
pub stays : (e : Encoding) (l : List ℕ) → 1 < rank e → first_encoding e l ≡ e
unfolding first_encoding
stays e l h =
    let low : rank (transfer_encoding l) ≤ rank e = omega (arith, h, below_two (transfer_encoding l)) in
    rw (le-ltb _ _ low)

-- so does anything where the line says nothing
pub keeps : (e : Encoding) (l : List ℕ) → rank (transfer_encoding l) ≤ 0 → first_encoding e l ≡ e
unfolding first_encoding
keeps e l h =
    let low : rank (transfer_encoding l) ≤ rank e = omega (arith, h) in
    rw (le-ltb _ _ low)

-- else the line's counts
higher : (e x : Encoding) → rank e ≤ 1 → 0 < rank x → cond (ltb (rank e) (rank x)) x e ≡ x
higher e x h g =
    by_test (ltb (rank e) (rank x)) (λ t. rw t)
    (λ f.
    let low : rank x ≤ rank e = ltb-false _ _ f in
    rw f (unrecognised e (omega (arith, low, g)) h ∙ sym (unrecognised x (omega (arith, g)) (omega (arith, low, h)))))

pub counts : (e : Encoding) (l : List ℕ) → rank e ≤ 1 → 0 < rank (transfer_encoding l) → first_encoding e l ≡ transfer_encoding l
unfolding first_encoding
counts e l h g = higher e (transfer_encoding l) h g

-- ---- the scan passes the encoding on
type_keeps : (e : Encoding) (seen : Bool) (l : List ℕ) (c : ContentType) → (by_type e seen l c).encoding ≡ e
unfolding by_type
type_keeps e seen l Other = refl
type_keeps e seen l Plain = refl
type_keeps e seen l (Bounded b) = refl

ext_keeps : (e : Encoding) (seen : Bool) (l : List ℕ) (b : Option Span) → (by_ext e seen l b).encoding ≡ e
unfolding by_ext
ext_keeps e seen l (Some b) = refl
ext_keeps e seen l None = type_keeps e seen l (content_type l)

boundary_keeps : (e : Encoding) (seen : Bool) (b : Option (List ℕ)) (l : List ℕ) → (by_boundary e seen b l).encoding ≡ e
unfolding by_boundary
boundary_keeps e seen (Some b) l = refl
boundary_keeps e true None l = ext_keeps e true l (content_type_ext l)
boundary_keeps e false None l = type_keeps e false l (content_type l)

scan_encoding : (k : Known) (l : List ℕ) → (scanned k l).encoding ≡ first_encoding k.encoding l
unfolding scanned
scan_encoding k l = boundary_keeps (first_encoding k.encoding l) k.type_seen k.boundary l

-- ---- a line
-- it opens with the field's name
abbrev pub opens : List ℕ → Bool
opens l = starts_with (raised encoding_field) (raised l)

-- it is valid by document 01
abbrev pub Valid : List ℕ → Type 0
Valid l = rank (transfer_encoding l) ≡ 2

-- no line is
abbrev pub NoneValid : List (List ℕ) → Type 0
NoneValid [] = Unit {0}
NoneValid (l ∷ ls) = (rank (transfer_encoding l) ≤ 1) × NoneValid ls

-- some line opens with the field's name
abbrev pub some_opens : List (List ℕ) → Bool
some_opens [] = false
some_opens (l ∷ ls) = opens l || some_opens ls

-- what stands behind the name is valid or not recognised
said_by : (a b c d e : Bool) → 1 ≤ rank (cond a Bit7 (cond b Bit8 (cond c Binary (cond d QuotedPrintable (cond e Base64 Unrecognised)))))
said_by true b c d e = omega arith
said_by false true c d e = omega arith
said_by false false true d e = omega arith
said_by false false false true e = omega arith
said_by false false false false true = omega arith
said_by false false false false false = omega arith

abbrev pub names : String → List ℕ → Bool
names n l = same (raised (text n)) (raised l)

named_said : (l : List ℕ) → 1 ≤ rank (encoding_named l)
unfolding encoding_named
named_said l = said_by (names "7bit\r\n" l) (names "8bit\r\n" l) (names "binary\r\n" l) (names "quoted-printable\r\n" l) (names "base64\r\n" l)

line_says : (l : List ℕ) → opens l ≡ true → 0 < rank (transfer_encoding l)
unfolding transfer_encoding
line_says l o = rw o (named_said (behind_spaces (drop (length encoding_field) l)))

line_silent : (l : List ℕ) → opens l ≡ false → rank (transfer_encoding l) ≤ 0
unfolding transfer_encoding
line_silent l o = rw o (omega arith)

either_low : (b : Bool) (x y : Encoding) → rank x ≤ 1 → rank y ≤ 1 → rank (cond b x y) ≤ 1
either_low true x y h g = h
either_low false x y h g = g

still_low : (k : Known) (l : List ℕ) → rank k.encoding ≤ 1 → rank (transfer_encoding l) ≤ 1 → rank (scanned k l).encoding ≤ 1
unfolding first_encoding
still_low k l h g =
    let said = transfer_encoding l in
    rw (scan_encoding k l) (either_low (ltb (rank k.encoding) (rank said)) said k.encoding g h)

-- ---- all lines
-- what is known after some lines
unfoldable pub after : Known → List (List ℕ) → Known
after k [] = k
after k (l ∷ ls) = after (scanned k l) ls

all_keep : (k : Known) (ls : List (List ℕ)) → rank k.encoding ≡ 2 → (after k ls).encoding ≡ k.encoding
unfolding after
all_keep k [] h = refl
all_keep k (l ∷ ls) h =
    let one : (scanned k l).encoding ≡ k.encoding = scan_encoding k l ∙ stays k.encoding l (omega (arith, h)) in
    all_keep (scanned k l) ls (ap rank one ∙ h) ∙ one

counts_from : (k : Known) (ls : List (List ℕ)) (l : List ℕ) (ms : List (List ℕ))
    → rank k.encoding ≤ 1 → NoneValid ls → Valid l → (after k (ls ++ (l ∷ ms))).encoding ≡ transfer_encoding l
unfolding after
counts_from k [] l ms h n v =
    let one : (scanned k l).encoding ≡ transfer_encoding l = scan_encoding k l ∙ counts k.encoding l h (omega (arith, v)) in
    all_keep (scanned k l) ms (ap rank one ∙ v) ∙ one
counts_from k (m ∷ ls) l ms h n v = counts_from (scanned k m) ls l ms (still_low k m h n.0) n.1 v

-- the first valid line counts, whatever stands before and behind it
pub first_valid : (ls : List (List ℕ)) (l : List ℕ) (ms : List (List ℕ)) → NoneValid ls → Valid l → (after unknown (ls ++ (l ∷ ms))).encoding ≡ transfer_encoding l
first_valid ls l ms n v = counts_from unknown ls l ms (omega arith) n v

same_either : (b : Bool) → cond b Unrecognised Unrecognised ≡ Unrecognised
same_either true = refl
same_either false = refl

else_told : (b : Bool) {x e f : Encoding} → x ≡ cond b Unrecognised e → e ≡ f → x ≡ cond b Unrecognised f
else_told b h g = h ∙ ap (λ (e : Encoding). cond b Unrecognised e) g

left_from : (k : Known) (ls : List (List ℕ)) → rank k.encoding ≤ 1 → NoneValid ls → (after k ls).encoding ≡ cond (some_opens ls) Unrecognised k.encoding
unfolding after
left_from k [] h n = refl
left_from k (l ∷ ls) h n =
    let rest = left_from (scanned k l) ls (still_low k l h n.0) n.1 in
    by_test (opens l)
    (λ o.
    let says = line_says l o in
    rw o (else_told (some_opens ls) rest (scan_encoding k l ∙ counts k.encoding l h says ∙ unrecognised _ says n.0) ∙ same_either (some_opens ls)))
    (λ o. rw o (else_told (some_opens ls) rest (scan_encoding k l ∙ keeps k.encoding l (line_silent l o))))

-- without a valid line: 6 where a line opens with the field's name, else 0
pub none_valid : (ls : List (List ℕ)) → NoneValid ls → (after unknown ls).encoding ≡ cond (some_opens ls) Unrecognised Unsaid
none_valid ls n = left_from unknown ls (omega arith) n

-- ---- with 6 as none it is document 01's rule
abbrev pub as_none : Encoding → Encoding
as_none Unsaid = Unsaid
as_none Bit7 = Bit7
as_none Bit8 = Bit8
as_none Binary = Binary
as_none QuotedPrintable = QuotedPrintable
as_none Base64 = Base64
as_none Unrecognised = Unsaid

low_none : (e : Encoding) → rank e ≤ 1 → as_none e ≡ Unsaid
low_none Unsaid h = refl
low_none Bit7 h = absurd (omega arith)
low_none Bit8 h = absurd (omega arith)
low_none Binary h = absurd (omega arith)
low_none QuotedPrintable h = absurd (omega arith)
low_none Base64 h = absurd (omega arith)
low_none Unrecognised h = refl

yields : (e : Encoding) (l : List ℕ) → rank e ≤ 1 → as_none (first_encoding e l) ≡ as_none (transfer_encoding l)
yields e l h =
    by_test (ltb 0 (rank (transfer_encoding l))) (λ t. ap as_none (counts e l h (ltb-true _ _ t)))
    (λ f.
    let silent : rank (transfer_encoding l) ≤ 0 = ltb-false _ _ f in
    ap as_none (keeps e l silent) ∙ low_none e h ∙ sym (low_none (transfer_encoding l) (omega (arith, silent))))

pub as_none_lem : (e : Encoding) (l : List ℕ) → as_none (first_encoding e l) ≡ cond (eqb (encoding_number (as_none e)) 0) (as_none (transfer_encoding l)) (as_none e)
as_none_lem Unsaid l = yields Unsaid l (omega arith)
as_none_lem Bit7 l = ap as_none (stays Bit7 l (omega arith))
as_none_lem Bit8 l = ap as_none (stays Bit8 l (omega arith))
as_none_lem Binary l = ap as_none (stays Binary l (omega arith))
as_none_lem QuotedPrintable l = ap as_none (stays QuotedPrintable l (omega arith))
as_none_lem Base64 l = ap as_none (stays Base64 l (omega arith))
as_none_lem Unrecognised l = yields Unrecognised l (omega arith)
