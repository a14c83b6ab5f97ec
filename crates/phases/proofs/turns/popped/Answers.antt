-- `phases::turns::popped` meets its contract: the mail is over, or a header follows. Assumes nothing.
use Rattle.phases.proofs.Turning.{popped_out, popped_in}
use Rattle.phases.proofs.turns.popped.Goals as goal

-- no level is left
pub returns-then-level-eq0 : goal.returns-then-level-eq0
returns-then-level-eq0 c = λ k. popped_out k _ _ c.if-level-eq0.true (c.after_mail.ensures k)

-- a level is
pub returns : goal.returns
returns c = λ k. popped_in k _ c.if-level-eq0.false c.requires.0 c.requires.1 c.unheard.ensures
