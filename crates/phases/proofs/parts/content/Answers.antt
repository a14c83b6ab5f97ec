-- `phases::parts::content` meets its contract, by what the search finds. Assumes nothing.
use mathlib.Core.Path.{ap}
use native.Mathlib.Omega.{arith}
use lib.ListN.{length}
use Prim.Native.Nat.{◌+◌}
use Rattle.phases.specs.declared.Phase.TheVariants.{Between}
use Rattle.phases.proofs.Turning.{leads}
use Rattle.phases.proofs.Heading.{begins_later}
use Rattle.phases.proofs.Parting.{content_waits, content_piece, enters_between}
use Rattle.phases.proofs.parts.content.Goals as goal

-- no line is finished: the window is over
pub returns-in-Err : goal.returns-in-Err
returns-in-Err c = let a = c.args in
    let d = rw (c.boundary-b.ensures, c.in-Err.is) at c.seek.ensures in
    λ set. content_waits a.w.base a.kept.now a.mail a.level a.from a.here c.requires.1 c.requires.2 c.requires.4 a.encoding d

-- the content and its stop are written, and two bytes are read next
pub returns-in-Ok : goal.returns-in-Ok
returns-in-Ok c = let a = c.args in
    let to = a.w.base + c.in-Ok.e in
    let d = rw (c.boundary-b.ensures, c.in-Ok.is) at c.seek.ensures in
    λ set.
    rw c.onward.ensures
    (leads (content_piece a.w.base a.kept.now a.mail a.level a.from a.here c.requires.1 c.requires.2 c.requires.4 a.encoding (ap length c.boundary-b.ensures) d)
    a.kept.now a.table.now a.log c.hold-noted.result c.hold-noted.new.table (Between a.mail a.level)
    (rw c.saturating_sub-size.ensures at c.hold-noted.ensures)
    (enters_between a.kept.now a.mail a.level to c.requires.1 (begins_later to c.requires.4 (omega (arith, d.on)))))
