-- `reads::note` meets its contract, by whether the table has a slot. Assumes nothing.
use Rattle.reads.proofs.Notes.{noted}
use Rattle.reads.proofs.note.Goals as goal

pub returns : goal.returns
returns c = rw c.ok_or.ensures.value (noted _ (rw (c.new-event.ensures, c.kind_number-number.ensures) at c.put.ensures) c.stopped.ensures)
