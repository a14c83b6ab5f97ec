use Rattle.std.proofs.Common.{◌-◌, arith, sym, ◌∙◌}
use Rattle.fields.proofs.Last.{back_none_yet, back_here, back_on, back_in_vain}
use Rattle.fields.proofs.runs.trailing.Goals as goal

pub loop-p-init : goal.loop-p-init
loop-p-init g c = λ t same. back_none_yet _ _

-- the byte before p passes
pub returns-then-test : goal.returns-then-test
returns-then-test g c = λ t same.
    sym (back_here (c.loop-p.invariant t same) (omega arith) (sym (same _ _ (omega (arith, c.type_inv.l (c.loop-p.p - 1))) c.test.ensures) ∙ c.if-test.true))

-- it does not: the search goes down
pub loop-p-preserved : goal.loop-p-preserved
loop-p-preserved g c = λ t same. back_on (c.loop-p.invariant t same) (omega arith) (sym (same _ _ (omega (arith, c.type_inv.l (c.loop-p.p - 1))) c.test.ensures) ∙ c.if-test.false)

pub returns : goal.returns
returns g c = λ t same. sym (back_in_vain (c.loop-p.invariant t same) (omega arith))
