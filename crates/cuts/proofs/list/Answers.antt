-- `cuts::list` is safe, and its text lies in the buffer. Assumes nothing.
use Rattle.cuts.proofs.Laws.{listing_fits}
use Rattle.cuts.proofs.list.Goals as goal

-- the listing lies in the buffer
pub returns : goal.returns
returns c = listing_fits _ c.append.ensures c.requires c.if-room-lt-LAST_LINE.false c.if-room-count.false
