-- `phases::envelope::user` meets its contract. Assumes nothing.
use Rattle.phases.proofs.Reactions.{user_gives}
use Rattle.phases.proofs.envelope.user.Goals as goal

pub returns : goal.returns
returns c = λ k. c.given.ensures _ _ user_gives k
