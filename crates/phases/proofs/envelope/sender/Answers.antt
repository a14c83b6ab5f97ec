-- `phases::envelope::sender` meets its contract: the line is tried. Assumes nothing.
use mathlib.Core.Path.{refl}
use Rattle.rules.specs.Phases.{sender, wants}
use Rattle.phases.specs.Phasing.{state_of, Fits}
use Rattle.phases.proofs.Reactions.{sender_by}
use Rattle.phases.proofs.Turning.{piece_of, halts, stopped}
use Rattle.phases.proofs.envelope.sender.Goals as goal

-- no line is finished, or it is refused
pub returns-in_err-line : goal.returns-in_err-line
unfolding wants state_of Fits
returns-in_err-line c = λ k. stopped _ c.from_residual.ensures.1 (halts k _ sender refl refl c.in_err-line.ensures c.requires tt)

-- the line is tried
pub returns : goal.returns
unfolding wants state_of
returns c = let line = c.in_ok-line.ensures in λ k. c.tried.ensures.is _ k _ (piece_of sender line.line.ends line.passes (sender_by _ line.line))
