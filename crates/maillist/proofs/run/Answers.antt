-- `run`: what was read is the input, or so much of it that the rest changes nothing.
use Rattle.maillist.proofs.Laws.{all_printed}
use Rattle.maillist.proofs.run.Goals as goal

pub returns : goal.returns
returns g c = all_printed _ _ _ _ c.in-Ok.n c.fill.new.buf c.print.result c.fill.auto.buf c.in-Ok.ensures.room c.in-Ok.ensures.bytes c.print.ensures
