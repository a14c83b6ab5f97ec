-- `utf8::sequence` meets its contract. The loop's invariant: the octets up to the i-th tail are worth c. Assumes nothing.
use Rattle.std.proofs.Common.{◌+◌}
use Rattle.utf8.proofs.Sequences.{Joined}
use Rattle.utf8.proofs.sequence.Given as goal

abbrev pub invariant-loop-i : goal.invariant-loop-i
invariant-loop-i l = Joined (l.tails + 1) l.tails l.bits l.l l.i l.c
