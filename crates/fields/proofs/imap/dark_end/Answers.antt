-- `fields::imap::dark_end` meets its contract, by whether a byte is not white. Assumes nothing.
use mathlib.Core.Path.{◌≡◌, sym, ◌∙◌}
use native.Mathlib.Omega.{arith}
use Rattle.std.proofs.Common.{rules, tests}
use Rattle.fields.specs.Imap.{dark}
use Rattle.fields.specs.Runs.{dark_byte, last_place, through}
use Rattle.fields.proofs.Last.{last_inside}
use Rattle.fields.proofs.imap.dark_end.Goals.{After-trailing}
use Rattle.fields.proofs.imap.dark_end.Goals as goal

last-told : (c : After-trailing) → c.trailing.result ≡ last_place (dark c.args.l.now) c.args.l.now
unfolding dark
last-told c = c.trailing.ensures dark_byte (λ b r l e. search (rules, tests))

pub overflow_add-result : goal.overflow_add-result
overflow_add-result c = omega (arith, last_inside _ _ _ (sym (last-told (goal.at.overflow_add-result c).After-trailing) ∙ c.in-Some.is))

pub returns : goal.returns
unfolding through
returns c = rw (sym (last-told (goal.at.returns c).After-trailing) ∙ c.in-Some.is)

pub returns-in_default : goal.returns-in_default
unfolding through
returns-in_default c = rw (sym (last-told (goal.at.returns-in_default c).After-trailing) ∙ c.in_default.is)
