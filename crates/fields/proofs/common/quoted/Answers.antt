-- `fields::common::quoted` meets its contract, by whether the closing quote is found. Assumes nothing.
use mathlib.Core.Path.{sym, ◌∙◌}
use Rattle.reading.proofs.Words.{rest_is}
use Rattle.fields.specs.Common.{closed, quoted}
use Rattle.fields.proofs.common.quoted.Goals as goal

pub returns : goal.returns
unfolding quoted closed
returns c = rw (rw rest_is at (sym c.find_byte.ensures ∙ c.in_ok-len.was))

pub returns-in_err-len : goal.returns-in_err-len
unfolding quoted closed
returns-in_err-len c = rw (rw rest_is at (sym c.find_byte.ensures ∙ c.in_err-len.was)) c.from_residual.ensures
