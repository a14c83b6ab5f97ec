use mathlib.Core.Path.{refl, sym, ◌∙◌}
use native.Mathlib.Omega.{arith}
use Rattle.mailindex.proofs.Held.{unset_step, unset_not, unset_none}
use Rattle.mailindex.proofs.rest_unset.Goals as goal

-- all six are to be looked at
pub loop-i-init : goal.loop-i-init
loop-i-init c = (omega arith, refl)

-- one is made
pub returns-then-choices-i-ne0 : goal.returns-then-choices-i-ne0
returns-then-choices-i-ne0 c = sym (c.loop-i.invariant.1 ∙ unset_not _ _ (omega arith) c.if-choices-i-ne0.true)

-- it is not
pub loop-i-preserved : goal.loop-i-preserved
loop-i-preserved c = (omega arith, c.loop-i.invariant.1 ∙ unset_step _ _ (omega arith) c.if-choices-i-ne0.false)

-- none is left
pub returns : goal.returns
returns c = sym (c.loop-i.invariant.1 ∙ unset_none _ _ (omega arith))
