use Rattle.std.proofs.Common.{◌≡◌, false, arith, sym, ◌∙◌}
use Rattle.reading.specs.Reading.{delimits}
use Rattle.reading.proofs.Ends.{opens_not, opens_room, stands_then, stands_not}
use Rattle.reading.proofs.Passing.{sought_passed, dashless_passed}
use Rattle.reading.proofs.Places.{sought_none_yet, sought_here, sought_on, sought_in_vain}
use Rattle.reading.proofs.delimiter.Goals.{Joined-else-opens, else-opens-via-then-opens+else-stands, else-opens-via-else-opens}
use Rattle.reading.proofs.delimiter.Goals as goal

pub loop-p-init : goal.loop-p-init
loop-p-init c = sought_none_yet _ _

pub stands-requires : goal.stands-requires
stands-requires c = omega (arith, opens_room c.args.s.now c.loop-p.p (sym c.opens.ensures ∙ c.if-opens.true))

-- the boundary stands behind two hyphens at p, which is a place for a delimiter
pub returns-then-stands : goal.returns-then-stands
returns-then-stands c = sought_here c.loop-p.invariant c.loop-p-test.true (stands_then _ _ _ (sym c.opens.ensures ∙ c.if-opens.true) (sym c.stands.ensures ∙ c.if-stands.true))

-- no delimiter stands at p
none-at : (c : Joined-else-opens) → delimits c.args.b.now c.args.s.now c.loop-p.p ≡ false
none-at c =
    elim c.else-opens.branch [
      | else-opens-via-then-opens+else-stands w ↦ stands_not _ _ _ (sym w.stands.ensures ∙ w.if-stands.false)
      | else-opens-via-else-opens w ↦ opens_not _ _ _ (sym c.opens.ensures ∙ w.if-opens.false)
    ]

-- on to the next hyphen behind an LF: no delimiter stands before it
pub loop-p-preserved : goal.loop-p-preserved
loop-p-preserved c =
    sought_passed _ (sought_on c.loop-p.invariant c.loop-p-test.true (none-at (goal.at.loop-p-preserved c).Joined-else-opens))
    (dashless_passed _ _ (omega arith) c.next_dash-p.ensures.passed)

-- the region ends
pub returns : goal.returns
returns c = sought_in_vain c.loop-p.invariant c.loop-p-test.false
