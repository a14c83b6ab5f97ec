-- `reading::delimiter` meets its contract. The loop's invariant: the first delimiter from p on is the first of all. Assumes nothing.
use Rattle.std.proofs.Common.{◌-◌, length}
use Rattle.reading.specs.Reading.{delimits}
use Rattle.reading.proofs.Places.{Sought}
use Rattle.reading.proofs.delimiter.Given as goal

abbrev pub invariant-loop-p : goal.invariant-loop-p
invariant-loop-p l = Sought (delimits l.b l.s) l.s l.p

abbrev pub decreases-loop-p : goal.decreases-loop-p
decreases-loop-p l = length l.s - l.p
