-- `mailindex::mailindex_pop3_server` meets its contract: the entry's answer, as numbers. Assumes nothing.
use Rattle.mailindex.proofs.Laws.{answers}
use Rattle.mailindex.proofs.mailindex_pop3_server.Goals as goal

pub returns : goal.returns
returns c = answers c.pop3_server.ensures c.numbers.ensures
