-- `phases::parts::closed` meets its contract, by whether the literal's rest is below the outermost boundary's length. Assumes nothing.
use mathlib.Core.Path.{ap, sym, ◌∙◌}
use lib.ListN.{length}
use Rattle.phases.proofs.Parting.{enters_resting, enters_skipping}
use Rattle.phases.proofs.parts.closed.Goals as goal

-- just the rest is skipped
pub returns-in-Some : goal.returns-in-Some
returns-in-Some c = enters_resting c.args.kept.now _ _ c.requires.0 c.requires.2 (ap length c.boundary.ensures) (sym c.short_rest.ensures ∙ c.in-Some.is)

-- lines are
pub returns-in-None : goal.returns-in-None
returns-in-None c = enters_skipping c.args.kept.now _ _ c.requires.0 c.requires.2 (ap length c.boundary.ensures) (sym c.short_rest.ensures ∙ c.in-None.is)
