-- `sessions::smtp::one_mail` meets its contract: each walk goes on where the one before it came to. Assumes nothing.
use Rattle.sessions.proofs.smtp.one_mail.Goals as goal

pub envelope-requires : goal.envelope-requires
envelope-requires c = (c.in_ok-second.ensures c.args.table.now).moved.1
