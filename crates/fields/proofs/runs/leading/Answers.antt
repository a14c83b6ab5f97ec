use Rattle.std.proofs.Common.{◌≡◌, length, arith, sym, ◌∙◌}
use Rattle.fields.proofs.Led.{led_none_yet, led_on, led_stop, led_all}
use Rattle.fields.proofs.runs.leading.Goals as goal

pub loop-i-init : goal.loop-i-init
loop-i-init g c = λ t same. led_none_yet _ _

-- the byte at i ends the run
pub returns-then-not-test : goal.returns-then-not-test
returns-then-not-test g c = λ t same.
    led_stop (c.loop-i.invariant t same) (omega arith) (sym (same _ _ (omega (arith, c.type_inv.l c.loop-i.i)) c.test.ensures) ∙ c.if-not-test.true)

-- it belongs to it
pub loop-i-preserved : goal.loop-i-preserved
loop-i-preserved g c = λ t same. led_on (c.loop-i.invariant t same) (omega arith) (sym (same _ _ (omega (arith, c.type_inv.l c.loop-i.i)) c.test.ensures) ∙ c.if-not-test.false)

-- the run takes the whole line
pub returns : goal.returns
returns g c = λ t same. let all : c.loop-i.i ≡ length c.args.l.now = omega arith in
    rw all at (led_all (c.loop-i.invariant t same) (omega arith))
