-- `utf8::character` meets its contract, by whether there is a byte. Assumes nothing.
use mathlib.Core.Path.{◌∙◌}
use Rattle.utf8.specs.Utf8.{character}
use Rattle.utf8.proofs.Characters.{character_none}
use Rattle.utf8.proofs.character.Goals as goal

pub returns-in_err-b : goal.returns-in_err-b
returns-in_err-b c = c.from_residual.ensures ∙ character_none _ c.in_err-b.ensures.cases

pub returns : goal.returns
unfolding character
returns c = rw c.in_ok-b.ensures.cases.0 c.opened.ensures
