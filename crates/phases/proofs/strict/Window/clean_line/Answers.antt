-- `clean_line` meets its contract: a line that is not read waits, one that does not pass is refused. Assumes nothing.
use mathlib.Core.Path.{refl}
use Rattle.std.proofs.lemmas.Result.{err_from_is_err_and}
use Rattle.phases.specs.Phasing.{waits, refuses}
use Rattle.phases.proofs.strict.Window.clean_line.Goals as goal

-- none is finished
pub returns-in_default : goal.returns-in_default
returns-in_default c = waits _ (rw c.in_default.is at c.clean_line.ensures) refl

-- it is bare
pub returns-in_err-pass : goal.returns-in_err-pass
returns-in_err-pass c = let left = err_from_is_err_and c.from_residual.result c.from_residual.ensures.1 in
    rw (left.1, left.2) (refuses _ c.in-Ok.ensures.ends c.in_err-pass.ensures.0 c.in_err-pass.ensures.1)
