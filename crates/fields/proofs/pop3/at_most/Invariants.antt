-- `fields::pop3::at_most` meets its contract. The loop's invariant: but for the digits that are left, the other is ahead by so much. Assumes nothing.
use Rattle.fields.proofs.Compared.{Ahead}
use Rattle.fields.proofs.pop3.at_most.Given as goal

abbrev pub invariant-loop-left : goal.invariant-loop-left
invariant-loop-left l = Ahead l.number l.most l.left l.ahead

abbrev pub decreases-loop-left : goal.decreases-loop-left
decreases-loop-left l = l.left
