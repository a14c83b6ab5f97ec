-- `phases::header::plain_mail` meets its contract, by whose mail it is. Assumes nothing.
use Rattle.phases.proofs.Heading.{plain_lines, plain_small, plain_rest}
use Rattle.phases.proofs.header.plain_mail.Goals as goal

-- lines
pub returns-in-Smtp : goal.returns-in-Smtp
returns-in-Smtp c = λ k. plain_lines k _ _ c.in-Smtp.is c.note.ensures

-- the literal is smaller than the header
pub returns-then-size-read : goal.returns-then-size-read
returns-then-size-read c = λ k. plain_small k _ _ c.in-Imap.is c.if-size-read.true

-- what it has left
pub returns-else-size-read : goal.returns-else-size-read
returns-else-size-read c = λ k. plain_rest k _ _ c.in-Imap.is c.if-size-read.false (c.literal_body.ensures k)
