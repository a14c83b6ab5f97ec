-- `sessions::header::read_mail` meets its contract: a header, and behind it a plain mail or a multipart. Assumes nothing.
use Rattle.sessions.proofs.Parting.{head_plain, head_multi}
use Rattle.sessions.proofs.header.read_mail.Goals as goal

-- no boundary
pub returns-in-None : goal.returns-in-None
returns-in-None c = head_plain c.args.s.bytes.now c.in_ok-known.ensures c.args.mail c.in-None.is c.plain_mail.ensures

-- a boundary
pub returns-in-Some : goal.returns-in-Some
returns-in-Some c = head_multi c.args.s.bytes.now c.in_ok-known.ensures c.args.mail c.in-Some.is c.multi_body.ensures
