-- `mailindex::mailindex_smtp_client` meets its contract: the entry's answer, as numbers. Assumes nothing.
use Rattle.mailindex.proofs.Laws.{answers}
use Rattle.mailindex.proofs.mailindex_smtp_client.Goals as goal

pub returns : goal.returns
returns c = answers c.smtp_client.ensures c.numbers.ensures
