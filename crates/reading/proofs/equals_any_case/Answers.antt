-- `reading::equals_any_case` meets its contract, by the lengths, which are those in upper case. Assumes nothing.
use borrow.Author.Tests.{eq-eqb, ne_eqb}
use Rattle.reading.specs.Bytes.{same}
use Rattle.reading.proofs.Words.{raised_length}
use Rattle.reading.proofs.equals_any_case.Goals as goal

-- they are equal
pub returns-then-l-w : goal.returns-then-l-w
unfolding same
returns-then-l-w c = let a = c.args in
    rw (raised_length a.w.now, raised_length a.l.now, eq-eqb _ _ c.if-l-w.true) c.starts_with_any_case.ensures

-- they differ
pub returns-else-l-w : goal.returns-else-l-w
unfolding same
returns-else-l-w c = let a = c.args in
    rw (raised_length a.w.now, raised_length a.l.now, ne_eqb _ _ c.if-l-w.false)
