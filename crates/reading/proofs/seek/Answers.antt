use Rattle.std.proofs.Common.{arith, sym, ◌∙◌}
use Rattle.reading.proofs.Passing.{passed_one, passed_here, passed_all}
use Rattle.reading.proofs.seek.Goals as goal

pub returns-then-test : goal.returns-then-test
returns-then-test g c = λ t same. let w = c.loop-p.invariant t same in
    passed_here t w (omega arith) (sym (same c.loop-p.p c.test.result w.on (omega arith) c.test.ensures) ∙ c.if-test.true)

pub loop-p-preserved : goal.loop-p-preserved
loop-p-preserved g c = λ t same. let w = c.loop-p.invariant t same in
    passed_one t w (omega arith) (sym (same c.loop-p.p c.test.result w.on (omega arith) c.test.ensures) ∙ c.if-test.false)

pub returns : goal.returns
returns g c = λ t same. passed_all t (c.loop-p.invariant t same) (omega arith) (omega arith)
