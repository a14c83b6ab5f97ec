-- `print`: the bytes that are written are those at the buffer's front.
use Rattle.maillist.proofs.Laws.{printed_bytes}
use Rattle.maillist.proofs.print.Goals as goal

pub returns : goal.returns
returns g c = let e = printed_bytes c.answer-n.ensures in rw e at c.write_all.ensures.bytes
