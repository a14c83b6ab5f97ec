-- `cases::four` meets its contract. Assumes nothing.
use Rattle.cases.specs.Cases.{four}
use Rattle.cases.proofs.four.Goals as goal

pub returns : goal.returns
unfolding four
returns c = rw (c.two.ensures.0, c.two-2.ensures.0)
