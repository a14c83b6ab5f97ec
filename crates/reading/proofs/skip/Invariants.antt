-- `reading::skip` meets its contract. The loop's invariant: no place before p passes. Assumes nothing.
use Rattle.std.proofs.Common.{◌-◌, ◌≤◌, ℕ, Bool, length}
use Rattle.reading.specs.Blocks.{Computes, Passed}
use Rattle.reading.proofs.skip.Given as goal

abbrev pub invariant-loop-p : goal.invariant-loop-p
invariant-loop-p g l = (l.from ≤ l.p) × (l.p ≤ length l.s) × ((t : ℕ → Bool) → Computes (goal.F-post g l.test) t l.from (length l.s) → Passed t l.s l.from l.p)

abbrev pub decreases-loop-p : goal.decreases-loop-p
decreases-loop-p g l = length l.s - l.p
