-- `list`: a turn of its loop, and how it is left.
use Rattle.phases.proofs.Reactions.{lined_halts, lined_full, lined_leads, lined_on}
use Rattle.phases.proofs.Turning.{not_yet, stopped}
use Rattle.phases.proofs.lines.list.Goals as goal

-- nothing is read yet
pub loop-behind-init : goal.loop-behind-init
loop-behind-init g c = (c.requires.0, λ so l said. not_yet c.requires.0)

-- no line is finished, or it is refused
pub returns-in_err-line : goal.returns-in_err-line
returns-in_err-line g c = λ so l said k. stopped _ c.from_residual.ensures.1 (lined_halts (c.loop-behind.invariant.1 so l said) l c.in_err-line.ensures k)

-- the table is full
pub returns-in-Err : goal.returns-in-Err
returns-in-Err g c = let full = rw c.in-Err.is at c.note.ensures in
    λ so l said k. rw c.over.ensures (lined_full (c.loop-behind.invariant.1 so l said) l c.in_ok-line.ensures full k)

-- another phase follows
pub returns-in-Some : goal.returns-in-Some
returns-in-Some g c = let written = rw c.in-Ok.is at c.note.ensures in
    λ so l said k. lined_leads (c.loop-behind.invariant.1 so l said) l c.in_ok-line.ensures written (rw c.in-Some.is at (said _ _ _ c.behind.ensures)) k

-- another line
pub loop-behind-preserved : goal.loop-behind-preserved
loop-behind-preserved g c = let written = rw c.in-Ok.is at c.note.ensures in (
  c.in_ok-line.ensures.line.ends.within,
  λ so l said. lined_on (c.loop-behind.invariant.1 so l said) l c.in_ok-line.ensures written (rw c.in_default.is at (said _ _ _ c.behind.ensures)) c.note.auto.table,
)
