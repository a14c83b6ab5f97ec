-- `bare`, by the length of what is read and its last two bytes.
use mathlib.Core.Path.{sym, ap}
use mathlib.Core.Bool.{not}
use native.Mathlib.Omega.{arith}
use borrow.Author.Tests.{ne_eqb}
use Rattle.rules.specs.Strict.{is_bare}
use Rattle.phases.proofs.Bare.{bare_by, bare_else}
use Rattle.phases.proofs.strict.bare.Goals as goal

-- a short line: its end is compared
pub returns-then-e-p-lt4 : goal.returns-then-e-p-lt4
unfolding is_bare
returns-then-e-p-lt4 c = ap not c.ends_in_crlf.ensures

-- a longer one that does not end in LF
pub returns-then-w-e-ne10 : goal.returns-then-w-e-ne10
returns-then-w-e-ne10 c = sym (bare_else _ _ _ c.requires.1 (omega (arith, c.if-e-p-lt4.false)) (ne_eqb _ _ c.if-w-e-ne10.true))

-- one that does: the byte before it tells
pub returns : goal.returns
returns c = sym (bare_by _ _ _ c.requires.1 (omega (arith, c.if-e-p-lt4.false)) c.if-w-e-ne10.false)
