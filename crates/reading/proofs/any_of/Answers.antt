use Rattle.std.proofs.Common.{◌≡◌, ◌+◌, ◌||◌, Bool, arith, refl, ap}
use Rattle.reading.specs.Bytes.{first, found}
use Rattle.reading.proofs.Passing.{found_more}
use Rattle.reading.proofs.any_of.Goals as goal

pub loop-i-init : goal.loop-i-init
unfolding found first
loop-i-init g c = λ t same. refl

-- the place p + i is tested
pub loop-i-preserved : goal.loop-i-preserved
loop-i-preserved g c = λ t same.
    let p = c.args.p in
    let i = c.loop-i.i in
    rw (found_more t p i, ← c.loop-i.invariant t same)
    (ap (λ (b : Bool). c.loop-i.seen || b) (same (p + i) c.test-seen.result (omega arith) (omega arith) c.test-seen.ensures))

pub returns : goal.returns
returns g c = λ t same.
    let n : c.loop-i.i ≡ g.row.N = omega arith in
    rw n at (c.loop-i.invariant t same)
