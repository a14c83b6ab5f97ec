-- `fields::common::scan_line` meets its contract: a boundary once supplied stays. Assumes nothing.
use mathlib.Core.Path.{◌≡◌, sym, ◌∙◌}
use native.Mathlib.Omega.{arith}
use Rattle.std.proofs.Common.{rules}
use Rattle.std.specs.Prelude.{None}
use Rattle.fields.proofs.Bdrys.{scan_had, says_other, says_plain, says_bounded, bounded_room}
use Rattle.fields.proofs.common.scan_line.Goals.{Else-is_some}
use Rattle.fields.proofs.common.scan_line.Goals as goal

-- it was supplied before
pub returns-then-is_some : goal.returns-then-is_some
returns-then-is_some c = let a = c.args in
    scan_had a.h.now a.at a.end a.known _ c.first_encoding-encoding.ensures (sym c.is_some.ensures ∙ c.if-is_some.true) c.requires.2

-- ---- it was not: this line may supply it
lacked : (c : Else-is_some) → c.args.known.boundary ≡ None
lacked c = search rules

pub returns-in-Other : goal.returns-in-Other
returns-in-Other c = let a = c.args in
    says_other a.h.now a.at a.end a.known _ c.first_encoding-encoding.ensures (lacked (goal.at.returns-in-Other c).Else-is_some) (sym c.said.ensures ∙ c.in-Other.is)

pub returns-in-Plain : goal.returns-in-Plain
returns-in-Plain c = let a = c.args in
    says_plain a.h.now a.at a.end a.known _ c.first_encoding-encoding.ensures (lacked (goal.at.returns-in-Plain c).Else-is_some) (sym c.said.ensures ∙ c.in-Plain.is)

pub overflow_add-result : goal.overflow_add-result
overflow_add-result c = let a = c.args in
    omega (
      arith,
      bounded_room a.h.now a.at a.end a.known _ c.first_encoding-encoding.ensures (lacked (goal.at.overflow_add-result c).Else-is_some)
          c.in-Bounded.b (sym c.said.ensures ∙ c.in-Bounded.is) c.requires.0 c.requires.1,
    )

pub returns-in-Bounded : goal.returns-in-Bounded
returns-in-Bounded c = let a = c.args in
    says_bounded a.h.now a.at a.end a.known _ c.first_encoding-encoding.ensures (lacked (goal.at.returns-in-Bounded c).Else-is_some)
    c.in-Bounded.b (sym c.said.ensures ∙ c.in-Bounded.is) c.requires.0 c.requires.1
