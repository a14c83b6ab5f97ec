-- Boundaries lie inside their line, and a line's part of the header is the header's.
-- Assumes nothing.
use mathlib.Core.Path.{◌≡◌, refl, sym, ap, subst, ◌∙◌}
use mathlib.Core.Bool.{Bool, true, false, cond, ◌&&◌}
use mathlib.Core.List.{List, [], ◌∷◌, ◌++◌}
use Rattle.std.specs.Prelude.{is_some, None, Option, Some}
use Prim.Native.Nat.{ℕ, ◌+◌, ◌-◌, ◌≤◌}
use native.Mathlib.Omega.{arith}
use lib.ListN.{length, take, drop, length-drop, length-take}
use lib.Seq.{drop-drop, take-take}
use Rattle.events.specs.declared.Encoding.{Encoding}
use Rattle.reading.proofs.Pieces.{drop_take}
use Rattle.reading.proofs.Places.{first_inside, first_passes}
use Rattle.reading.proofs.Words.{starts_long, starts_append}
use Rattle.reading.specs.Bytes.{starts_with, ends_with, first_place, holds, stands, span}
use Rattle.fields.specs.Runs.{bare}
use Rattle.fields.specs.Common.{dash_bdry, supplied, said, type_field, bare_name, quoted_name, tab, closed, quoted, unquoted, typed, named, bare_parameter, parameter, content_type, content_type_ext, bytes_of, first_encoding, by_type, by_ext, by_boundary, scanned, known_of, part, Inside, Says}
use Rattle.reading.specs.declared.Span.{Span}
use Rattle.fields.specs.declared.common.ContentType.{ContentType}
use Rattle.fields.specs.declared.common.ContentType.TheVariants.{Other, Plain, Bounded}
use Rattle.fields.specs.declared.common.Scan.{Scan}
use Rattle.fields.proofs.Led.{lead_within}

-- a word that stands at a place behind o leaves room for itself
word_room : (w l : List ℕ) (o p : ℕ) → first_place (stands w (drop o l)) (drop o l) ≡ Some p → o + p + length w ≤ length l
unfolding stands
word_room w l o p e =
    let h = starts_long w (drop p (drop o l)) (first_passes (stands w (drop o l)) (drop o l) p e) in
    let i = first_inside (stands w (drop o l)) (drop o l) p e in
    omega (arith, length-drop p (drop o l), length-drop o l)

-- the same of a parameter's name
pub named_room : (w l : List ℕ) (p : ℕ) → named w l ≡ Some p → length type_field + p + length w ≤ length l
unfolding named
named_room w l p e = word_room w l (length type_field) p e

closed_inside : (l : List ℕ) (o : ℕ) (q : Option ℕ) → o ≤ length l → first_place (holds 34 (drop o l)) (drop o l) ≡ q → Inside l (closed o q)
unfolding closed
closed_inside l o (Some n) h e = omega (arith, first_inside (holds 34 (drop o l)) (drop o l) n e, length-drop o l)
closed_inside l o None h e = tt

quoted_inside : (l : List ℕ) (o : ℕ) → o ≤ length l → Inside l (quoted l o)
unfolding quoted
quoted_inside l o h = closed_inside l o (first_place (holds 34 (drop o l)) (drop o l)) h refl

unquoted_inside : (l : List ℕ) (o : ℕ) → o ≤ length l → Inside l (unquoted l o)
unfolding unquoted
unquoted_inside l o h = omega (arith, lead_within bare (drop o l), length-drop o l)

-- of a Content-Type line
abbrev InsideType : List ℕ → ContentType → Type 0
InsideType l Other = Unit {0}
InsideType l Plain = Unit {0}
InsideType l (Bounded b) = b.at + b.len ≤ length l

typed_inside : (l : List ℕ) (b : Option Span) → Inside l b → InsideType l (typed b)
unfolding typed
typed_inside l (Some b) h = h
typed_inside l None h = tt

bare_inside : (l : List ℕ) (q : Option ℕ) → named bare_name l ≡ q → InsideType l (bare_parameter l q)
unfolding bare_parameter
bare_inside l (Some p) e = typed_inside l (unquoted l (length type_field + p + length bare_name))
    (unquoted_inside l (length type_field + p + length bare_name) (named_room bare_name l p e))
bare_inside l None e = tt

parameter_inside : (l : List ℕ) (q : Option ℕ) → named quoted_name l ≡ q → InsideType l (parameter l q)
unfolding parameter
parameter_inside l (Some p) e = typed_inside l (quoted l (length type_field + p + length quoted_name))
    (quoted_inside l (length type_field + p + length quoted_name) (named_room quoted_name l p e))
parameter_inside l None e = bare_inside l (named bare_name l) refl

type_if : (l : List ℕ) (t : Bool) (c : ContentType) → InsideType l c → InsideType l (cond t c Other)
type_if l true c h = h
type_if l false c h = tt

type_inside : (l : List ℕ) → InsideType l (content_type l)
unfolding content_type
type_inside l = type_if l (starts_with type_field l) (parameter l (named quoted_name l)) (parameter_inside l (named quoted_name l) refl)

ext_if : (l : List ℕ) (t : Bool) (b c : Option Span) → (t ≡ true → Inside l b) → Inside l c → Inside l (cond t b c)
ext_if l true b c h g = h refl
ext_if l false b c h g = g

ext_inside : (l : List ℕ) → Inside l (content_type_ext l)
unfolding content_type_ext
ext_inside l =
    ext_if l (starts_with (tab ++ quoted_name) l) _ _ (λ e. quoted_inside l (length (tab ++ quoted_name)) (starts_long (tab ++ quoted_name) l e))
    (ext_if l (starts_with (tab ++ bare_name) l) _ _ (λ e. unquoted_inside l (length (tab ++ bare_name)) (starts_long (tab ++ bare_name) l e)) tt)

-- ---- a boundary of the line from `at` up to `end`, in the header
part_bytes : (h : List ℕ) (at end : ℕ) (b : Span) → b.at + b.len ≤ end - at → bytes_of h (span (at + b.at) b.len) ≡ bytes_of (part h at end) b
part_bytes h at end b g =
    sym (ap (take b.len) (drop_take b.at (end - at) (drop at h) ∙ ap (take (end - at - b.at)) (drop-drop b.at at h)) ∙ take-take b.len (end - at - b.at) (drop (at + b.at) h) (omega arith))

pub part_length : (h : List ℕ) (at end : ℕ) → end ≤ length h → length (part h at end) ≡ end - at
part_length h at end g = omega (arith, length-take (end - at) (drop at h), length-drop at h)

-- ---- what a line says of the type lies in it, and is what the scan goes by
supplied_inside : (l : List ℕ) (b : Option Span) (c : ContentType) → Inside l b → InsideType l c → InsideType l (supplied b c)
unfolding supplied
supplied_inside l (Some b) c h g = h
supplied_inside l None c h g = g

said_inside : (s : Bool) (l : List ℕ) → InsideType l (said s l)
unfolding said
said_inside true l = supplied_inside l (content_type_ext l) (content_type l) (ext_inside l) (type_inside l)
said_inside false l = type_inside l

by_supplied : (e : Encoding) (l : List ℕ) (b : Option Span) → by_ext e true l b ≡ by_type e true l (supplied b (content_type l))
unfolding by_ext by_type supplied
by_supplied e l (Some b) = refl
by_supplied e l None = refl

by_said : (e : Encoding) (s : Bool) (l : List ℕ) → by_boundary e s None l ≡ by_type e s l (said s l)
unfolding by_boundary said
by_said e true l = by_supplied e l (content_type_ext l)
by_said e false l = refl

-- ---- the header scan's step, case by case
module _ (h : List ℕ) (at end : ℕ) (k : Scan) (e : Encoding) (f : e ≡ first_encoding k.encoding (part h at end)) where
  had_if : (o : Option Span) → k.boundary ≡ o → is_some o ≡ true → Inside h k.boundary → Says h (scanned (known_of h k) (part h at end)) (record k { encoding = e })
  unfolding scanned by_boundary
  had_if (Some b) t n i = record { is = rw (t, ← f); inside = i }
  had_if None t n i = cc

  pub scan_had : is_some k.boundary ≡ true → Inside h k.boundary → Says h (scanned (known_of h k) (part h at end)) (record k { encoding = e })
  scan_had n i = had_if k.boundary refl n i

  module _ (none : k.boundary ≡ None) where
    by_line : scanned (known_of h k) (part h at end) ≡ by_type e k.seen (part h at end) (said k.seen (part h at end))
    unfolding scanned
    by_line = rw (none, ← f) (by_said e k.seen (part h at end))

    pub says_other : said k.seen (part h at end) ≡ Other → Says h (scanned (known_of h k) (part h at end)) (record k { encoding = e })
    unfolding by_type
    says_other t = record { is = rw (by_line, t, none); inside = rw none tt }

    pub says_plain : said k.seen (part h at end) ≡ Plain → Says h (scanned (known_of h k) (part h at end)) (record k { encoding = e; seen = true })
    unfolding by_type
    says_plain t = record { is = rw (by_line, t, none); inside = rw none tt }

    module _ (b : Span) (t : said k.seen (part h at end) ≡ Bounded b) (a : at ≤ end) (g : end ≤ length h) where
      pub bounded_room : b.at + b.len ≤ end - at
      bounded_room = omega (arith, subst (InsideType (part h at end)) t (said_inside k.seen (part h at end)), part_length h at end g)

      pub says_bounded : Says h (scanned (known_of h k) (part h at end)) (record { encoding = e; seen = true; boundary = Some (span (at + b.at) b.len) })
      unfolding by_type
      says_bounded = record { is = rw (by_line, t, part_bytes h at end b bounded_room); inside = omega (arith, bounded_room) }

-- ---- a line of two hyphens and a boundary, as the code tests it
pub dash_bdry_is : (b l : List ℕ) → dash_bdry b l ≡ (starts_with (45 ∷ 45 ∷ []) l && starts_with b (drop 2 l) && ends_with (13 ∷ 10 ∷ []) l)
unfolding dash_bdry
dash_bdry_is b l = ap (λ (t : Bool). t && ends_with (13 ∷ 10 ∷ []) l) (starts_append (45 ∷ 45 ∷ []) b l)
