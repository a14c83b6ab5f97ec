-- `reads::sized` meets its contract, by whether the bytes are there. Assumes nothing.
use Rattle.reads.proofs.Laws.{sized_ends}
use Rattle.reads.proofs.sized.Goals as goal

pub returns-then-n-left : goal.returns-then-n-left
returns-then-n-left c = sized_ends _ _ _ c.requires.0 c.requires.1 c.if-n-left.true
