-- `direction::dir_confirm` meets its contract, by the protocol's number. Assumes nothing.
use mathlib.Core.Path.{sym, ◌∙◌}
use Rattle.direction.proofs.Sides.{guess_named, guess_other, unread}
use Rattle.direction.proofs.dir_confirm.Goals as goal

pub returns-in_default : goal.returns-in_default
returns-in_default c = guess_other _ _ _ (sym c.of.ensures ∙ c.in_default.is)

pub returns : goal.returns
returns c =
    rw (c.then_some.ensures, c.then_some-2.ensures) at c.confirm.ensures
    ∙ unread _ _ _ _ _ _ _
    ∙ guess_named _ _ _ _ (sym c.of.ensures ∙ c.in-Some.is)
