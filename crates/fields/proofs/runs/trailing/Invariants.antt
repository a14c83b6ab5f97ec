-- `fields::runs::trailing` meets its contract. The loop's invariant: the last place below p that passes is the line's last. Assumes nothing.
use Rattle.std.proofs.Common.{ℕ, Bool, get_or}
use Rattle.fields.specs.Runs.{Tests}
use Rattle.fields.proofs.Last.{Back}
use Rattle.fields.proofs.runs.trailing.Given as goal

abbrev pub invariant-loop-p : goal.invariant-loop-p
invariant-loop-p g l = (t : ℕ → Bool) → Tests (goal.F-post g l.test) t → Back (λ p. t (get_or l.l p 0)) l.l l.p
