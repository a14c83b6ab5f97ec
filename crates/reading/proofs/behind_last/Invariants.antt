-- `reading::behind_last` meets its contract. The loop's invariant: no place from p on holds the byte. Assumes nothing.
use Rattle.std.proofs.Common.{length}
use Rattle.reading.specs.Blocks.{Passed}
use Rattle.reading.specs.Bytes.{holds}
use Rattle.reading.proofs.behind_last.Given as goal

abbrev pub invariant-loop-p : goal.invariant-loop-p
invariant-loop-p l = Passed (holds l.b l.s) l.s l.p (length l.s)
