-- What a header line says: document 01, 'Mail', and document 02, W1. Ports the field tests of common.rs.
-- Assumes nothing.
use Rattle.std.specs.Prelude.{◌≡◌, Bool, true, false, cond, ◌&&◌, List, ◌++◌, ℕ, ◌+◌, ◌-◌, ◌≤◌, ltb, length, take, drop, Option, Some, None}
use Rattle.events.specs.declared.Encoding.{Encoding}
use Rattle.events.specs.declared.Encoding.TheVariants.{Unsaid, Bit7, Bit8, Binary, QuotedPrintable, Base64, Unrecognised}
use Rattle.reading.specs.Bytes.{starts_with, same, ends_with, raised, first_place, holds, stands, span}
use Rattle.reading.specs.Reading.{crlf, dash}
use Rattle.reading.specs.Text.{text}
use Rattle.fields.specs.Runs.{space, bare, lead}
use Rattle.reading.specs.declared.Span.{Span}
use Rattle.fields.specs.declared.common.ContentType.{ContentType}
use Rattle.fields.specs.declared.common.ContentType.TheVariants.{Other, Plain, Bounded}
use Rattle.fields.specs.declared.common.Scan.{Scan}

-- ---- the encoding

abbrev pub encoding_field : List ℕ
encoding_field = text "Content-Transfer-Encoding:"

-- one of the five names (any case), CRLF; W1: what is not valid is not recognised
unfoldable pub encoding_named : List ℕ → Encoding
encoding_named l =
    cond (same (raised (text "7bit\r\n")) (raised l)) Bit7
    (cond (same (raised (text "8bit\r\n")) (raised l)) Bit8
    (cond (same (raised (text "binary\r\n")) (raised l)) Binary
    (cond (same (raised (text "quoted-printable\r\n")) (raised l)) QuotedPrintable
    (cond (same (raised (text "base64\r\n")) (raised l)) Base64
    Unrecognised))))

-- Content-Transfer-Encoding: (any case), spaces or none, the encoding
unfoldable pub behind_spaces : List ℕ → List ℕ
behind_spaces l = drop (lead space l) l

unfoldable pub transfer_encoding : List ℕ → Encoding
transfer_encoding l =
    cond (starts_with (raised encoding_field) (raised l)) (encoding_named (behind_spaces (drop (length encoding_field) l))) Unsaid

-- ---- the boundary: where in the line it stands, and how long it is

-- from o on, up to a required closing quote
unfoldable pub closed : ℕ → Option ℕ → Option Span
closed o (Some n) = Some (span o n)
closed o None = None

unfoldable pub quoted : List ℕ → ℕ → Option Span
quoted l o = closed o (first_place (holds 34 (drop o l)) (drop o l))

-- from o on, up to ; space CR or the line's end
unfoldable pub unquoted : List ℕ → ℕ → Option Span
unquoted l o = Some (span o (lead bare (drop o l)))

-- a missing closing quote counts as no Content-Type
unfoldable pub typed : Option Span → ContentType
typed (Some b) = Bounded b
typed None = Other

abbrev pub type_field : List ℕ
type_field = text "Content-Type: "

abbrev pub bare_name : List ℕ
bare_name = text "boundary="

abbrev pub quoted_name : List ℕ
quoted_name = text "boundary=\""

-- the first place in the line, behind its field name, where w stands
unfoldable pub named : List ℕ → List ℕ → Option ℕ
named w l = first_place (stands w (drop (length type_field) l)) (drop (length type_field) l)

-- the first boundary=, if there is one
unfoldable pub bare_parameter : List ℕ → Option ℕ → ContentType
bare_parameter l (Some p) = typed (unquoted l (length type_field + p + length bare_name))
bare_parameter l None = Plain

-- the first boundary=", else the first boundary=
unfoldable pub parameter : List ℕ → Option ℕ → ContentType
parameter l (Some p) = typed (quoted l (length type_field + p + length quoted_name))
parameter l None = bare_parameter l (named bare_name l)

-- Content-Type: and a space, exactly; then always within the line
unfoldable pub content_type : List ℕ → ContentType
content_type l = cond (starts_with type_field l) (parameter l (named quoted_name l)) Other

abbrev pub tab : List ℕ
tab = text "\t"

-- a later line that opens with a tab and boundary=, quoted or not; there a missing closing quote supplies nothing
unfoldable pub content_type_ext : List ℕ → Option Span
content_type_ext l =
    cond (starts_with (tab ++ quoted_name) l) (quoted l (length (tab ++ quoted_name)))
    (cond (starts_with (tab ++ bare_name) l) (unquoted l (length (tab ++ bare_name)))
    None)

-- ---- the header scan: what is known after some lines
pub record Known : Type 0 where
  pub encoding : Encoding
  pub type_seen : Bool  -- Content-Type was seen, without a boundary
  pub boundary : Option (List ℕ)

-- nothing yet
abbrev pub unknown : Known
unknown = record { encoding = Unsaid; type_seen = false; boundary = None }

-- W1: a valid one counts for more than one that is not recognised, and that for more than none
abbrev pub rank : Encoding → ℕ
rank Unsaid = 0
rank Bit7 = 2
rank Bit8 = 2
rank Binary = 2
rank QuotedPrintable = 2
rank Base64 = 2
rank Unrecognised = 1

-- the first valid encoding counts; without one, that a line was not recognised
unfoldable pub first_encoding : Encoding → List ℕ → Encoding
first_encoding e l = cond (ltb (rank e) (rank (transfer_encoding l))) (transfer_encoding l) e

-- the bytes of a boundary in its line
abbrev pub bytes_of : List ℕ → Span → List ℕ
bytes_of l b = take b.len (drop b.at l)

-- what a line says of the type, given whether Content-Type was seen
unfoldable pub by_type : Encoding → Bool → List ℕ → ContentType → Known
by_type e seen l Other = record { encoding = e; type_seen = seen; boundary = None }
by_type e seen l Plain = record { encoding = e; type_seen = true; boundary = None }
by_type e seen l (Bounded b) = record { encoding = e; type_seen = true; boundary = Some (bytes_of l b) }

-- Content-Type seen without a boundary lets a later line supply it
unfoldable pub by_ext : Encoding → Bool → List ℕ → Option Span → Known
by_ext e seen l (Some b) = record { encoding = e; type_seen = seen; boundary = Some (bytes_of l b) }
by_ext e seen l None = by_type e seen l (content_type l)

-- the first line to supply a boundary wins
unfoldable pub by_boundary : Encoding → Bool → Option (List ℕ) → List ℕ → Known
by_boundary e seen (Some b) l = record { encoding = e; type_seen = seen; boundary = Some b }
by_boundary e true None l = by_ext e true l (content_type_ext l)
by_boundary e false None l = by_type e false l (content_type l)

-- what a line says of the type, by whether Content-Type was seen without a boundary
unfoldable pub supplied : Option Span → ContentType → ContentType
supplied (Some b) c = Bounded b
supplied None c = c

unfoldable pub said : Bool → List ℕ → ContentType
said seen l = cond seen (supplied (content_type_ext l) (content_type l)) (content_type l)

-- from what was known and one line to what is known now
unfoldable pub scanned : Known → List ℕ → Known
scanned k l = by_boundary (first_encoding k.encoding l) k.type_seen k.boundary l

-- ---- a line that opens with two hyphens and the boundary b and ends in CRLF; the two may overlap
unfoldable pub dash_bdry : List ℕ → List ℕ → Bool
dash_bdry b l = starts_with (dash b) l && ends_with crlf l

-- ---- what the code knows, a boundary being a place and a length in the header h
abbrev pub bdry_bytes : List ℕ → Option Span → Option (List ℕ)
bdry_bytes h None = None
bdry_bytes h (Some b) = Some (bytes_of h b)

abbrev pub Inside : List ℕ → Option Span → Type 0
Inside h None = Unit {0}
Inside h (Some b) = b.at + b.len ≤ length h

abbrev pub known_of : List ℕ → Scan → Known
known_of h k = record { encoding = k.encoding; type_seen = k.seen; boundary = bdry_bytes h k.boundary }

-- the line from `at` up to `end`
abbrev pub part : List ℕ → ℕ → ℕ → List ℕ
part h at end = take (end - at) (drop at h)

-- r says k, and its boundary lies inside h
pub record Says (h : List ℕ) (k : Known) (r : Scan) : Type 0 where
  pub is : known_of h r ≡ k
  pub inside : Inside h r.boundary
