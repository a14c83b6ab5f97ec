-- `reading::any_of` meets its contract. The loop's invariant: `seen` tells whether one of the first i places passes. Assumes nothing.
use Rattle.std.proofs.Common.{◌≡◌, ◌+◌, ℕ, Bool}
use Rattle.reading.specs.Blocks.{Computes}
use Rattle.reading.specs.Bytes.{first, found}
use Rattle.reading.proofs.any_of.Given as goal

abbrev pub invariant-loop-i : goal.invariant-loop-i
invariant-loop-i g l = (t : ℕ → Bool) → Computes (goal.F-post g l.test) t l.p (l.p + g.row.N) → l.seen ≡ found (first t l.p l.i)
