-- `fields::common::dash_bdry` meets its contract, behind the two hyphens. Assumes nothing.
use mathlib.Core.Path.{sym, ◌∙◌}
use Rattle.reading.proofs.Words.{rest_is}
use Rattle.fields.proofs.Bdrys.{dash_bdry_is}
use Rattle.fields.proofs.common.dash_bdry.Goals as goal

-- the boundary stands there: the line's end decides
pub returns-then-starts_with : goal.returns-then-starts_with
returns-then-starts_with c =
    rw (
      dash_bdry_is,
      sym c.starts_with.ensures ∙ c.if-not-starts_with.false,
      rw rest_is at (sym c.starts_with-2.ensures ∙ c.if-starts_with.true),
    )
    c.ends_with.ensures

-- another one does
pub returns-else-starts_with : goal.returns-else-starts_with
returns-else-starts_with c =
    rw (
      dash_bdry_is,
      sym c.starts_with.ensures ∙ c.if-not-starts_with.false,
      rw rest_is at (sym c.starts_with-2.ensures ∙ c.if-starts_with.false),
    )
    c.if-starts_with.false
