use mathlib.Core.Path.{sym, ◌∙◌}
use native.Mathlib.Omega.{arith}
use Rattle.cases.proofs.Laws.{compared_none_yet, compared_long, compared_on, compared_differs, compared_all}
use Rattle.cases.proofs.same_numbers.Goals as goal

-- there are not as many
pub returns-then-b-t : goal.returns-then-b-t
returns-then-b-t c = compared_long _ _ c.if-b-t.true

-- there are
pub loop-i-init : goal.loop-i-init
loop-i-init c = compared_none_yet _ _ c.if-b-t.false

-- ---- a turn: the number is another
pub returns-then-t-i : goal.returns-then-t-i
returns-then-t-i c = compared_differs c.loop-i.invariant c.loop-i-test.true (λ e. c.if-t-i.true (e ∙ sym c.four.ensures))

-- it is the same
pub loop-i-preserved : goal.loop-i-preserved
loop-i-preserved c = compared_on c.loop-i.invariant c.loop-i-test.true (c.if-t-i.false ∙ c.four.ensures)

-- ---- all are
pub returns : goal.returns
returns c = compared_all c.loop-i.invariant c.loop-i-test.false

pub loop-i-smaller : goal.loop-i-smaller
loop-i-smaller c = omega arith
