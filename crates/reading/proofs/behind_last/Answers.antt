use Rattle.std.proofs.Common.{◌≡◌, ◌-◌, ◌+◌, rules, arith, tests}
use borrow.Author.Tests.{eq-eqb, ne_eqb}
use Rattle.reading.specs.Bytes.{holds}
use Rattle.reading.proofs.Passing.{passed_one_back}
use Rattle.reading.proofs.behind_last.Goals as goal

-- the blocks that were skipped do not hold it
pub loop-p-init : goal.loop-p-init
unfolding holds
loop-p-init c = c.skip_back-end.ensures.none (holds c.args.b c.args.s.now) (λ k r l h e. search (rules, tests))

-- it stands before p
pub returns-then-s-p : goal.returns-then-s-p
unfolding holds
returns-then-s-p c = let n : c.loop-p.p - 1 + 1 ≡ c.loop-p.p = omega arith in
    rw n (record { passed = c.loop-p.invariant; passes = λ _. eq-eqb _ _ c.if-s-p.true })

-- it does not
pub loop-p-preserved : goal.loop-p-preserved
unfolding holds
loop-p-preserved c = passed_one_back _ c.loop-p.invariant (omega arith) (ne_eqb _ _ c.if-s-p.false)
