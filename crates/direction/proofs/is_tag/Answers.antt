-- `direction::is_tag` meets its contract. Assumes nothing.
use mathlib.Core.Path.{◌∙◌}
use Rattle.std.proofs.Common.{rules, tests}
use Rattle.std.proofs.lemmas.Iterator.{YieldsList-from_slice}
use Rattle.std.proofs.lemmas.Iterator.Search.{all_from_yields_List}
use Rattle.direction.specs.Direction.{is_tag_byte}
use Rattle.direction.proofs.Tags.{all_tag}
use Rattle.direction.proofs.is_tag.Goals as goal

pub returns : goal.returns
returns c = all_from_yields_List is_tag_byte _ _ _ c.all.ensures.ran (YieldsList-from_slice c.args.tag.now cc) (λ x b q k. search (rules, tests)) ∙ all_tag c.args.tag.now
