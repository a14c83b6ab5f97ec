-- `fields::imap::size_of` meets its contract: what stands behind the last opening brace decides. Assumes nothing.
use mathlib.Core.Path.{◌≡◌, sym, ap, ◌∙◌}
use mathlib.Core.Bool.{true}
use Prim.Native.Nat.{◌<◌}
use native.Mathlib.Omega.{arith}
use lib.ListN.{length}
use Rattle.reading.proofs.Words.{rest_is}
use Rattle.reading.specs.Bytes.{ends_with}
use Rattle.reading.specs.Text.{text}
use Rattle.fields.specs.Imap.{braced, from_brace, size_of}
use Rattle.fields.proofs.Last.{last_inside}
use Rattle.fields.proofs.imap.size_of.Goals.{Else-not-ends_with, In-Some}
use Rattle.fields.proofs.imap.size_of.Goals as goal

-- where the line is not turned away, it ends in a closing brace
brace-ends : (c : Else-not-ends_with) → ends_with (text "}") c.args.l.now ≡ true
brace-ends c = sym c.ends_with.ensures ∙ c.if-not-ends_with.false

-- the opening one at p lies inside
brace-inside : (c : In-Some) → c.in-Some.p < length c.args.l.now
brace-inside c = last_inside _ _ _ (sym c.find_last.ensures ∙ c.in-Some.is)

pub returns-then-not-ends_with : goal.returns-then-not-ends_with
unfolding size_of
returns-then-not-ends_with c = rw (sym c.ends_with.ensures ∙ c.if-not-ends_with.true)

pub overflow_add-p : goal.overflow_add-p
overflow_add-p c = omega (arith, brace-inside c)

pub slice_bounds-braced-count : goal.slice_bounds-braced-count
slice_bounds-braced-count c = omega (arith, brace-inside c)

pub slice_bounds-braced-start : goal.slice_bounds-braced-start
slice_bounds-braced-start c = omega (arith, brace-inside c)

pub returns : goal.returns
unfolding size_of from_brace
returns c = rw (brace-ends (goal.at.returns c).Else-not-ends_with, sym c.find_last.ensures ∙ c.in-Some.is) (c.braced.ensures ∙ ap braced (rest_is c.args.l.now _))

-- there is none
pub returns-in_default : goal.returns-in_default
unfolding size_of from_brace
returns-in_default c = rw (brace-ends (goal.at.returns-in_default c).Else-not-ends_with, sym c.find_last.ensures ∙ c.in_default.is)
