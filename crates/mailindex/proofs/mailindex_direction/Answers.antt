-- `mailindex::mailindex_direction` meets its contract: the guess's number. Assumes nothing.
use mathlib.Core.Path.{ap, ◌∙◌}
use Rattle.direction.specs.Direction.{guess_number}
use Rattle.mailindex.proofs.mailindex_direction.Goals as goal

pub returns : goal.returns
returns c = c.guess_number.ensures ∙ ap guess_number c.dir_confirm.ensures
