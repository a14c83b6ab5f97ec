-- `reading::line_end` meets its contract, by where the first LF stands. Assumes nothing.
use mathlib.Core.Path.{sym, ◌∙◌}
use native.Mathlib.Omega.{arith}
use Rattle.reading.specs.Reading.{past, reach}
use Rattle.reading.proofs.Places.{first_inside}
use Rattle.reading.proofs.line_end.Goals as goal

pub overflow_add-result : goal.overflow_add-result
overflow_add-result c = omega (arith, first_inside _ _ _ (sym c.find_byte.ensures ∙ c.in_ok-find_byte.was))

pub returns : goal.returns
unfolding reach past
returns c = rw (sym c.find_byte.ensures ∙ c.in_ok-find_byte.was)

-- nowhere
pub returns-in_err-find_byte : goal.returns-in_err-find_byte
unfolding reach past
returns-in_err-find_byte c = rw (sym c.find_byte.ensures ∙ c.in_err-find_byte.was) c.from_residual.ensures
