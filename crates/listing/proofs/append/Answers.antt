-- `listing::append` meets its contract: the last line is put behind the events' lines. Assumes nothing.
use native.Mathlib.Omega.{arith}
use Rattle.listing.specs.Listing.{listing}
use Rattle.listing.proofs.Lines.{lines_room}
use Rattle.listing.proofs.Pasted.{pasted_on}
use Rattle.listing.proofs.append.Goals as goal

pub last_line-requires : goal.last_line-requires
last_line-requires c = lines_room _ _ c.event_lines-end.ensures c.requires.0

pub returns : goal.returns
unfolding listing
returns c = pasted_on c.event_lines-end.ensures (omega (arith, c.requires.0)) c.last_line.ensures
