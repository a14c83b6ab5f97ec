-- `fields::imap::append_size` meets its contract: the size is read without the trailing white space. Assumes nothing.
use mathlib.Core.Path.{sym}
use native.Mathlib.Omega.{arith}
use lib.Seq.{length-take-le}
use Rattle.fields.specs.Imap.{trimmed, append_size}
use Rattle.fields.proofs.Texts.{end_within}
use Rattle.fields.proofs.imap.append_size.Goals as goal

-- what is left of the line lies inside
pub slice_bounds-size_of-end : goal.slice_bounds-size_of-end
slice_bounds-size_of-end c = let l = c.args.l.now in
    sym (length-take-le _ l (omega (arith, c.text_end.ensures, end_within l)))

pub returns : goal.returns
unfolding append_size trimmed
returns c = rw (sym c.text_end.ensures) c.size_of.ensures
