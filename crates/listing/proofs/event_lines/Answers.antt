use native.Mathlib.Omega.{arith}
use Rattle.listing.proofs.Lines.{lined_none_yet, lined_room, lined_on, lined_all}
use Rattle.listing.proofs.event_lines.Goals as goal

pub loop-i-init : goal.loop-i-init
loop-i-init c = lined_none_yet c.requires.0

-- ---- a turn
pub event_line-end-requires : goal.event_line-end-requires
event_line-end-requires c = (lined_room c.loop-i.invariant c.loop-i-test.true, omega (arith, c.requires.1))

pub loop-i-preserved : goal.loop-i-preserved
loop-i-preserved c = lined_on c.loop-i.invariant c.loop-i-test.true c.event_line-end.ensures

-- ---- behind the loop
pub returns : goal.returns
returns c = lined_all c.loop-i.invariant c.loop-i-test.false

pub loop-i-smaller : goal.loop-i-smaller
loop-i-smaller c = omega arith
