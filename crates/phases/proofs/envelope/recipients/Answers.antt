-- `recipients`: a turn of its loop, and how it is left.
use mathlib.Core.Path.{refl, sym, ◌∙◌}
use mathlib.Core.List.{[]}
use Rattle.reads.proofs.Laws.{begun_smtp}
use Rattle.rules.specs.Phases.{recipient, wants}
use Rattle.phases.specs.Phasing.{state_of, Fits}
use Rattle.phases.proofs.Reactions.{recipient_data, recipient_by}
use Rattle.phases.proofs.Turning.{piece_of, leads_still, first_head, looped_again, looped_goes, looped_leaves, halts, stopped}
use Rattle.phases.proofs.envelope.recipients.Goals as goal

-- no line is finished, or it is refused
pub returns-in_err-line : goal.returns-in_err-line
unfolding wants state_of Fits
returns-in_err-line c = let i = c.loop-line.invariant in
    λ k. stopped _ c.from_residual.ensures.1 (looped_goes i (halts k _ recipient refl refl c.in_err-line.ensures i.came.within tt))

-- DATA: a mail follows
pub returns-then-is_data : goal.returns-then-is_data
unfolding wants state_of
returns-then-is_data c = let line = c.in_ok-line.ensures in
    let data-line = sym c.is_data.ensures ∙ c.if-is_data.true in
    λ k.
    looped_leaves c.loop-line.invariant
    (leads_still (piece_of recipient line.line.ends line.passes (recipient_data _ line.line data-line)) refl (first_head k _ begun_smtp c.unheard.ensures))

-- none is given, or the table is full: the session is over
pub returns-in-Err : goal.returns-in-Err
unfolding wants state_of
returns-in-Err c = let line = c.in_ok-line.ensures in
    let other = sym c.is_data.ensures ∙ c.if-is_data.false in
    let read = rw c.in-Err.is at c.recipient.ensures in
    λ k.
    rw c.over.ensures
    (looped_leaves c.loop-line.invariant ((read.is _).is _ k _ (piece_of recipient line.line.ends line.passes (recipient_by _ line.line other))))

-- it is listed: another line
pub loop-line-preserved : goal.loop-line-preserved
unfolding wants state_of
loop-line-preserved c = let line = c.in_ok-line.ensures in
    let other = sym c.is_data.ensures ∙ c.if-is_data.false in
    let read = rw c.in-Ok.is at c.recipient.ensures in
    looped_again c.loop-line.invariant
    ((read.is _).is _ [] _ (piece_of recipient line.line.ends line.passes (recipient_by _ line.line other))) refl c.recipient.auto.table
