use mathlib.Core.Path.{sym, ◌∙◌}
use native.Mathlib.Omega.{arith}
use Rattle.utf8.proofs.Sequences.{tail_bits, joined_on, joined_broken, joined_all, sequence_short}
use Rattle.utf8.proofs.sequence.Goals as goal

-- the bytes end before the tails do
pub returns-then-l-tails : goal.returns-then-l-tails
returns-then-l-tails c = sequence_short _ _ _ _ c.if-l-tails.true

-- no tail
pub returns-then-not-is_tail : goal.returns-then-not-is_tail
returns-then-not-is_tail c = joined_broken c.loop-i.invariant c.loop-i-test.true (omega arith) (sym c.is_tail.ensures ∙ c.if-not-is_tail.true)

-- a tail, of six bits
pub overflow_sub-l : goal.overflow_sub-l
overflow_sub-l c = (tail_bits _ (sym c.is_tail.ensures ∙ c.if-not-is_tail.false)).least

pub loop-i-preserved : goal.loop-i-preserved
loop-i-preserved c = rw c.from.ensures (joined_on c.loop-i.invariant c.loop-i-test.true (omega arith) (sym c.is_tail.ensures ∙ c.if-not-is_tail.false))

-- behind the last
pub returns : goal.returns
returns c = c.lawful.ensures ∙ joined_all c.loop-i.invariant c.loop-i-test.false
