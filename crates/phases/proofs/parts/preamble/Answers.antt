-- `phases::parts::preamble` meets its contract, by what the search finds. Assumes nothing.
use Rattle.phases.proofs.Parting.{preamble_waits, preamble_found}
use Rattle.phases.proofs.parts.preamble.Goals as goal

-- no line is finished: the window is over
pub returns-in-Err : goal.returns-in-Err
returns-in-Err c = let a = c.args in
    let d = rw (c.boundary.ensures, c.in-Err.is) at c.seek.ensures in
    λ set t. preamble_waits a.w.base a.kept.now a.mail a.level a.from a.here c.requires.1 c.requires.2 c.requires.4 d

-- the delimiter
pub returns-in-Ok : goal.returns-in-Ok
returns-in-Ok c = let a = c.args in
    let d = rw (c.boundary.ensures, c.in-Ok.is) at c.seek.ensures in
    λ set t. preamble_found a.w.base a.kept.now a.mail a.level a.from a.here c.requires.1 c.requires.2 c.requires.4 d
