-- `reading::skip_back` meets its contract. The loop's invariant: no place from p on passes. Assumes nothing.
use Rattle.std.proofs.Common.{◌≤◌, ℕ, Bool, length}
use Rattle.reading.specs.Blocks.{Computes, Passed}
use Rattle.reading.proofs.skip_back.Given as goal

abbrev pub invariant-loop-p : goal.invariant-loop-p
invariant-loop-p g l = (l.p ≤ length l.s) × ((t : ℕ → Bool) → Computes (goal.F-post g l.test) t 0 (length l.s) → Passed t l.s l.p (length l.s))

abbrev pub decreases-loop-p : goal.decreases-loop-p
decreases-loop-p g l = l.p
