-- `fields::common::bare_parameter` meets its contract, by whether the parameter's name stands somewhere. Assumes nothing.
use mathlib.Core.Path.{◌≡◌, sym, ap, ◌∙◌}
use Prim.Native.Nat.{◌+◌, ◌≤◌}
use native.Mathlib.Omega.{arith}
use lib.ListN.{length}
use Rattle.reading.proofs.Words.{rest_is}
use Rattle.std.specs.Prelude.{Some}
use Rattle.fields.specs.Common.{type_field, named, bare_name, typed, bare_parameter}
use Rattle.fields.proofs.Bdrys.{named_room}
use Rattle.fields.proofs.common.bare_parameter.Goals.{In-Some}
use Rattle.fields.proofs.common.bare_parameter.Goals as goal

name-at : (c : In-Some) →
    named bare_name c.args.l.now ≡ Some c.in-Some.p
unfolding named
name-at c = rw rest_is at (sym c.find.ensures ∙ c.in-Some.is)

name-room : (c : In-Some) →
    length type_field + c.in-Some.p + length bare_name ≤ length c.args.l.now
name-room c = named_room bare_name _ _ (name-at c)

pub overflow_add-p : goal.overflow_add-p
overflow_add-p c = omega (arith, name-room c)

pub overflow_add-p-in-Some : goal.overflow_add-p-in-Some
overflow_add-p-in-Some c = omega (arith, name-room c)

pub unquoted-requires : goal.unquoted-requires
unquoted-requires c = name-room c

pub returns-in-Some : goal.returns-in-Some
unfolding bare_parameter
returns-in-Some c = rw (name-at (goal.at.returns-in-Some c).In-Some) (c.as_type.ensures ∙ ap typed c.unquoted.ensures)

-- ---- it stands nowhere
pub returns-in-None : goal.returns-in-None
unfolding bare_parameter named
returns-in-None c = rw (rw rest_is at (sym c.find.ensures ∙ c.in-None.is))
