use mathlib.Core.Path.{◌≡◌}
use Prim.Native.Nat.{◌+◌, ◌*◌, ◌-◌}
use native.Mathlib.Omega.{arith}
use Rattle.fields.specs.Runs.{from_last}
use Rattle.fields.proofs.Compared.{Low, from_last_low, ahead_none_yet, ahead_on, far_ahead, overtaken, ahead_all}
use Rattle.fields.proofs.pop3.at_most.Goals.{After-from_last}
use Rattle.fields.proofs.pop3.at_most.Goals as goal

-- what it has, with its lead
had : (c : After-from_last) →
    let loop = c.loop-left in
    c.tenfold.result + c.from_last.result ≡ loop.ahead * 10 + from_last (loop.left - 1) c.args.most.now
had c = omega (arith, c.tenfold.ensures, c.from_last.ensures)

pub overflow_add-have : goal.overflow_add-have
overflow_add-have c = omega (arith, had c, from_last_low (c.loop-left.left - 1) _ c.requires.1, c.loop-left.invariant.near)

-- ---- behind the number's digit

-- the number is ahead
pub returns-then-have-due : goal.returns-then-have-due
returns-then-have-due c = overtaken c.loop-left.invariant c.loop-left-test.true (had (goal.at.returns-then-have-due c).After-from_last) c.from_last-due.ensures c.requires.1 c.if-have-due.true

-- the other is far ahead
pub returns-then-ahead-ge-FAR : goal.returns-then-ahead-ge-FAR
returns-then-ahead-ge-FAR c = let low : Low 23 c.args.number.now = λ i. omega (arith, c.type_inv.number i) in
    far_ahead c.loop-left.invariant c.loop-left-test.true (had (goal.at.returns-then-ahead-ge-FAR c).After-from_last) c.from_last-due.ensures low c.if-have-due.false c.if-ahead-ge-FAR.true

-- neither
pub loop-left-preserved : goal.loop-left-preserved
loop-left-preserved c = ahead_on c.loop-left.invariant c.loop-left-test.true (had (goal.at.loop-left-preserved c).After-from_last) c.from_last-due.ensures c.if-have-due.false c.if-ahead-ge-FAR.false

-- ---- all digits are compared
pub returns : goal.returns
returns c = ahead_all c.loop-left.invariant c.loop-left-test.false

pub loop-left-init : goal.loop-left-init
loop-left-init c = ahead_none_yet _ _ (omega arith)

pub tenfold-requires : goal.tenfold-requires
tenfold-requires c = c.loop-left.invariant.near
