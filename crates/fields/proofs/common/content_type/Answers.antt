-- `fields::common::content_type` meets its contract: behind the field's name the quoted parameter is sought, then the bare one. Assumes nothing.
use mathlib.Core.Path.{◌≡◌, sym, ap, ◌∙◌}
use mathlib.Core.Bool.{true}
use Prim.Native.Nat.{◌+◌, ◌≤◌}
use native.Mathlib.Omega.{arith}
use lib.ListN.{length}
use Rattle.reading.proofs.Words.{rest_is, starts_long}
use Rattle.reading.specs.Bytes.{starts_with}
use Rattle.std.specs.Prelude.{Some}
use Rattle.fields.specs.Common.{type_field, named, quoted_name, typed, parameter, content_type}
use Rattle.fields.proofs.Bdrys.{named_room}
use Rattle.fields.proofs.common.content_type.Goals.{Else-not-starts_with, In-Some}
use Rattle.fields.proofs.common.content_type.Goals as goal

-- behind the test, where the line is not turned away: the field's name opens it
field-opens : (c : Else-not-starts_with) →
    starts_with type_field c.args.l.now ≡ true
field-opens c = sym c.starts_with.ensures ∙ c.if-not-starts_with.false

-- behind `find`'s answer `Some(p)`: the quoted parameter's name stands there
name-at : (c : In-Some) →
    named quoted_name c.args.l.now ≡ Some c.in-Some.p
unfolding named
name-at c = rw rest_is at (sym c.find.ensures ∙ c.in-Some.is)

name-room : (c : In-Some) →
    length type_field + c.in-Some.p + length quoted_name ≤ length c.args.l.now
name-room c = named_room quoted_name _ _ (name-at c)

-- ---- another field
pub returns-then-not-starts_with : goal.returns-then-not-starts_with
unfolding content_type
returns-then-not-starts_with c = rw (sym c.starts_with.ensures ∙ c.if-not-starts_with.true)

-- ---- this field
pub slice_bounds-find-count : goal.slice_bounds-find-count
slice_bounds-find-count c = starts_long type_field _ (field-opens c)

-- ---- a quoted parameter
pub overflow_add-p : goal.overflow_add-p
overflow_add-p c = omega (arith, name-room c)

pub overflow_add-p-in-Some : goal.overflow_add-p-in-Some
overflow_add-p-in-Some c = omega (arith, name-room c)

pub quoted-requires : goal.quoted-requires
quoted-requires c = name-room c

pub returns-in-Some : goal.returns-in-Some
unfolding content_type parameter
returns-in-Some c = rw (field-opens (goal.at.returns-in-Some c).Else-not-starts_with, name-at (goal.at.returns-in-Some c).In-Some) (c.as_type.ensures ∙ ap typed c.quoted.ensures)

-- ---- none: the bare one is sought
pub bare_parameter-requires : goal.bare_parameter-requires
bare_parameter-requires c = starts_long type_field _ (field-opens (goal.at.bare_parameter-requires c).Else-not-starts_with)

pub returns-in-None : goal.returns-in-None
unfolding content_type parameter named
returns-in-None c = rw (field-opens (goal.at.returns-in-None c).Else-not-starts_with, rw rest_is at (sym c.find.ensures ∙ c.in-None.is)) c.bare_parameter.ensures

pub slice_bounds-find-start : goal.slice_bounds-find-start
slice_bounds-find-start c = starts_long type_field _ (field-opens c)
