-- `reading::seek` meets its contract. The loop's invariant: no place before p passes. Assumes nothing.
use Rattle.std.proofs.Common.{ℕ, Bool, length}
use Rattle.reading.specs.Blocks.{Computes, Passed}
use Rattle.reading.proofs.seek.Given as goal

abbrev pub invariant-loop-p : goal.invariant-loop-p
invariant-loop-p g l = (t : ℕ → Bool) → Computes (goal.F-post g l.test) t l.from (length l.s) → Passed t l.s l.from l.p
