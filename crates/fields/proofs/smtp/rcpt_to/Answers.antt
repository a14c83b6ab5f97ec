-- `fields::smtp::rcpt_to` meets its contract: behind the field's name the address goes up to a required >. Assumes nothing.
use mathlib.Core.Path.{sym, ◌∙◌}
use Rattle.reading.proofs.Library.{prefix_is}
use Rattle.fields.specs.Smtp.{to_field, closing, required, rcpt_to}
use Rattle.fields.proofs.smtp.rcpt_to.Goals as goal

-- no such field
pub returns-in_err-rest : goal.returns-in_err-rest
unfolding rcpt_to
returns-in_err-rest c = rw (sym (prefix_is to_field c.args.l.now) ∙ c.in_err-rest.ensures.cases) c.from_residual.ensures

-- > stands nowhere
pub returns-in_err-len : goal.returns-in_err-len
unfolding rcpt_to closing required
returns-in_err-len c =
    rw (
      sym (prefix_is to_field c.args.l.now) ∙ c.in_ok-rest.ensures.cases.0,
      rw c.in_ok-rest.ensures.cases.1 at (sym c.find_byte.ensures ∙ c.in_err-len.was),
    )
    c.from_residual-in_err-len.ensures

pub returns : goal.returns
unfolding rcpt_to closing required
returns c =
    rw (
      sym (prefix_is to_field c.args.l.now) ∙ c.in_ok-rest.ensures.cases.0,
      rw c.in_ok-rest.ensures.cases.1 at (sym c.find_byte.ensures ∙ c.in_ok-len.was),
    )
