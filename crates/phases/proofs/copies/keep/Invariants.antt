-- `phases::copies::keep` meets its contract. The loop's invariant: j bytes are copied, and what stands before the slot and all lengths are as they were.
-- Assumes nothing.
use Rattle.phases.proofs.Parting.{Copying}
use Rattle.phases.proofs.copies.keep.Given as goal

abbrev pub invariant-loop-j : goal.invariant-loop-j
invariant-loop-j l = Copying l.initial.kept l.level l.b l.n l.j l.kept
