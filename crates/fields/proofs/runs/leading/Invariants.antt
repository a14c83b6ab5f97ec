-- `fields::runs::leading` meets its contract. The loop's invariant: the run goes up to i at least. Assumes nothing.
use Rattle.std.proofs.Common.{ℕ, Bool}
use Rattle.fields.specs.Runs.{Tests}
use Rattle.fields.proofs.Led.{Led}
use Rattle.fields.proofs.runs.leading.Given as goal

abbrev pub invariant-loop-i : goal.invariant-loop-i
invariant-loop-i g l = (t : ℕ → Bool) → Tests (goal.F-post g l.test) t → Led t l.l l.i
