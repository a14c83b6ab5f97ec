-- `text`: a turn of its loop, and how it is left.
use mathlib.Core.Path.{refl, sym, ◌∙◌}
use mathlib.Core.List.{[]}
use Rattle.rules.specs.Phases.{wants}
use Rattle.rules.specs.Phases as phase
use Rattle.windows.specs.Stands.{enter, enters}
use Rattle.phases.specs.Phasing.{state_of, Fits}
use Rattle.phases.proofs.Reactions.{text_dot, text_line}
use Rattle.phases.proofs.Turning.{piece_of, leads, leads_full, looped_on, looped_goes, looped_leaves, halts, stopped}
use Rattle.phases.proofs.bodies.text.Goals as goal

-- no line is finished, or it is refused
pub returns-in_err-e : goal.returns-in_err-e
unfolding wants state_of Fits
returns-in_err-e c = let i = c.loop-e.invariant in
    λ k. stopped _ c.from_residual.ensures.1 (looped_goes i (halts k _ (phase.text _ _) refl refl c.in_err-e.ensures i.came.within tt))

-- the dot line: the body stops, and the mail is over
pub returns-then-equals : goal.returns-then-equals
unfolding wants state_of
returns-then-equals c = let a = c.args in
    let line = c.in_ok-e.ensures in
    let dot = sym c.equals.ensures ∙ c.if-equals.true in
    let piece = piece_of (phase.text a.mail a.encoding) line.ends line.passes (text_dot a.w.base a.mail a.encoding line.ends dot) in
    λ k.
    rw c.onward.ensures
    (looped_leaves c.loop-e.invariant
    (leads piece k c.loop-e.table c.loop-e.log c.note-noted.result c.note-noted.new.table c.after_mail.result c.note-noted.ensures (c.after_mail.ensures k)))

-- any other, and the table is full
pub returns-in-Err : goal.returns-in-Err
unfolding wants state_of
returns-in-Err c = let line = c.in_ok-e.ensures in
    let other = sym c.equals.ensures ∙ c.if-equals.false in
    let full = rw c.in-Err.is at c.note.ensures in
    λ k.
    rw c.over.ensures
    (looped_leaves c.loop-e.invariant
    (leads_full (piece_of (phase.text _ _) line.ends line.passes (text_line _ _ _ line.ends other)) [] refl full))

-- it is listed: another line
pub loop-e-preserved : goal.loop-e-preserved
unfolding wants enter enters
loop-e-preserved c = let line = c.in_ok-e.ensures in
    let other = sym c.equals.ensures ∙ c.if-equals.false in
    let written = rw c.in-Ok.is at c.note.ensures in
    looped_on c.loop-e.invariant (piece_of (phase.text _ _) line.ends line.passes (text_line _ _ _ line.ends other)) written refl c.note.auto.table
