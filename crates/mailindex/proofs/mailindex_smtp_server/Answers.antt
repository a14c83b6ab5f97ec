-- `mailindex::mailindex_smtp_server` meets its contract: the entry's answer, as numbers. Assumes nothing.
use Rattle.mailindex.proofs.Laws.{answers}
use Rattle.mailindex.proofs.mailindex_smtp_server.Goals as goal

pub returns : goal.returns
returns c = answers c.smtp_server.ensures c.numbers.ensures
