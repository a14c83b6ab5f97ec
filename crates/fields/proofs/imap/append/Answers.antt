-- `fields::imap::append` meets its contract: a tag, one byte at least, and what `append_follows` answers. Assumes nothing.
use native.Mathlib.Omega.{arith}
use Rattle.fields.specs.Imap.{is_append, append_follows}
use Rattle.fields.proofs.Behind.{counted_none, counted_some}
use Rattle.fields.proofs.Texts.{tag_within}
use Rattle.fields.proofs.imap.append.Goals as goal

pub slice_bounds-append_follows-count : goal.slice_bounds-append_follows-count
slice_bounds-append_follows-count c = omega (arith, c.tag-n.ensures, tag_within c.args.l.now)

pub slice_bounds-append_follows-start : goal.slice_bounds-append_follows-start
slice_bounds-append_follows-start c = omega (arith, c.tag-n.ensures, tag_within c.args.l.now)

pub returns-then-n-gt0 : goal.returns-then-n-gt0
unfolding is_append
returns-then-n-gt0 c = counted_some _ c.tag-n.ensures append_follows (omega arith) c.append_follows.ensures

pub returns-else-n-gt0 : goal.returns-else-n-gt0
unfolding is_append
returns-else-n-gt0 c = counted_none _ c.tag-n.ensures append_follows (omega arith)
