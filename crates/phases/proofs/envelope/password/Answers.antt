-- `phases::envelope::password` meets its contract. Assumes nothing.
use Rattle.phases.proofs.Reactions.{password_gives}
use Rattle.phases.proofs.envelope.password.Goals as goal

pub returns : goal.returns
returns c = λ k. c.given.ensures _ _ password_gives k
