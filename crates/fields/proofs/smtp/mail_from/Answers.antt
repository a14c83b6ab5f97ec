-- `fields::smtp::mail_from` meets its contract: behind the field's name the address goes up to > or the line's end. Assumes nothing.
use mathlib.Core.Path.{sym, ◌∙◌}
use lib.ListN.{length, length-drop}
use Rattle.reading.proofs.Library.{prefix_is}
use Rattle.fields.specs.Smtp.{from_field, closing, mail_from}
use Rattle.fields.proofs.Behind.{up_to_either}
use Rattle.fields.proofs.smtp.mail_from.Goals as goal

-- no such field
pub returns-in_err-rest : goal.returns-in_err-rest
unfolding mail_from
returns-in_err-rest c = rw (sym (prefix_is from_field c.args.l.now) ∙ c.in_err-rest.ensures.cases) c.from_residual.ensures

pub returns : goal.returns
unfolding mail_from closing
returns c =
    rw (
      sym (prefix_is from_field c.args.l.now) ∙ c.in_ok-rest.ensures.cases.0,
      c.unwrap_or-len.ensures,
      c.find_byte.ensures,
      c.in_ok-rest.ensures.cases.1,
      length-drop (length from_field) c.args.l.now,
      up_to_either,
    )
