-- `phases::header::behind` meets its contract: a multipart, a mail with no boundary, or a part. Assumes nothing.
use Rattle.phases.proofs.Heading.{begun_deeper, begun_mail, begun_part}
use Rattle.phases.proofs.header.behind.Goals as goal

-- a multipart
pub returns-then-heard : goal.returns-then-heard
returns-then-heard c = begun_deeper _ c.args.heard _ _ _ c.if-heard.true c.deeper.ensures

-- a mail with no boundary
pub returns-then-level-eq0 : goal.returns-then-level-eq0
returns-then-level-eq0 c = begun_mail _ c.args.heard _ _ _ c.if-heard.false c.if-level-eq0.true (c.plain_mail.ensures c.args.kept.now)

-- a part
pub returns : goal.returns
returns c = let a = c.args in
    begun_part a.kept.now _ _ a.mail a.heard _ c.requires.3 c.requires.1 c.if-heard.false c.if-level-eq0.false c.note.ensures
