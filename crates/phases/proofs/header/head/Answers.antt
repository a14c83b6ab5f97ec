-- `head`: a turn of its loop, and how it is left.
use mathlib.Core.Path.{sym, ◌∙◌}
use Rattle.phases.proofs.Heading.{head_halts, head_full, head_on, head_begun, head_stopped}
use Rattle.phases.proofs.header.head.Goals as goal

-- no line is finished, or it is refused
pub returns-in_err-e : goal.returns-in_err-e
returns-in_err-e c = head_stopped _ c.from_residual.ensures.1 (head_halts c.loop-e.invariant c.in_err-e.ensures)

-- the table is full
pub returns-in-Err : goal.returns-in-Err
returns-in-Err c = rw c.over.ensures (head_full c.loop-e.invariant c.in_ok-e.ensures (rw c.in-Err.is at c.note.ensures))

-- the blank line: what is behind it begins
pub returns-then-equals : goal.returns-then-equals
returns-then-equals c = let blank = sym c.equals.ensures ∙ c.if-equals.true in
    let noted = rw c.in-Ok.is at c.note.ensures in
    rw c.onward.ensures (head_begun c.loop-e.invariant c.in_ok-e.ensures noted blank c.behind-begun.ensures)

-- any other line is heard
pub loop-e-preserved : goal.loop-e-preserved
loop-e-preserved c = let other = sym c.equals.ensures ∙ c.if-equals.false in
    let noted = rw c.in-Ok.is at c.note.ensures in
    head_on c.loop-e.invariant c.in_ok-e.ensures noted other c.learn-known.ensures c.note.auto.table
