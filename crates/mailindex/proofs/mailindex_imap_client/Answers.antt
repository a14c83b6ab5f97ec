-- `mailindex::mailindex_imap_client` meets its contract: the entry's answer, as numbers. Assumes nothing.
use Rattle.mailindex.proofs.Laws.{answers}
use Rattle.mailindex.proofs.mailindex_imap_client.Goals as goal

pub returns : goal.returns
returns c = answers c.imap_client.ensures c.numbers.ensures
