use mathlib.Core.Path.{sym, ◌∙◌}
use Rattle.sessions.proofs.HeadTurns.{head_short, head_full, head_blank, head_line}
use Rattle.sessions.proofs.Steps.{is_err}
use Rattle.sessions.proofs.header.header.Goals as goal

-- ---- the line is short
pub returns-in_err-end : goal.returns-in_err-end
returns-in_err-end c = rw (is_err _ c.from_residual.ensures.1) (head_short c.loop-end.invariant c.in_err-end.ensures)

-- the table is full
pub returns-in_err-log : goal.returns-in_err-log
returns-in_err-log c = rw (is_err _ c.from_residual-in_err-log.ensures.1) (head_full c.loop-end.invariant c.in_ok-end.ensures c.in_err-log.ensures)

-- the blank line
pub returns-then-equals : goal.returns-then-equals
returns-then-equals c = head_blank c.loop-end.invariant c.in_ok-end.ensures c.in_ok-log.ensures (sym c.equals.ensures ∙ c.if-equals.true)

-- ---- any other line: it is scanned, and the next one is read
pub loop-end-preserved : goal.loop-end-preserved
loop-end-preserved c = let other = sym c.equals.ensures ∙ c.if-equals.false in
    head_line c.loop-end.invariant c.in_ok-end.ensures c.in_ok-log.ensures other c.scan_line-known.ensures c.note.auto.table
