-- `seeking`: a turn of its loop, and how it is left.
use mathlib.Core.Path.{refl, sym, ◌∙◌}
use Rattle.rules.specs.Phases.{seeking, wants}
use Rattle.windows.specs.Stands.{enter, enters}
use Rattle.phases.specs.Phasing.{state_of, Fits}
use Rattle.phases.proofs.Reactions.{seeking_from, seeking_on}
use Rattle.phases.proofs.Turning.{piece_of, not_yet, looped_still, looped_goes, looped_leaves, halts, stopped}
use Rattle.phases.proofs.envelope.seeking.Goals as goal

-- nothing is read yet
pub loop-line-init : goal.loop-line-init
loop-line-init c = not_yet c.requires

-- no line is finished, or it is refused
pub returns-in_err-line : goal.returns-in_err-line
unfolding wants state_of Fits
returns-in_err-line c = let i = c.loop-line.invariant in
    λ k. stopped _ c.from_residual.ensures.1 (looped_goes i (halts k _ seeking refl refl c.in_err-line.ensures i.came.within tt))

-- it is tried
pub returns-then-is_mail_from : goal.returns-then-is_mail_from
unfolding wants state_of
returns-then-is_mail_from c = let line = c.in_ok-line.ensures in
    let from = sym c.is_mail_from.ensures ∙ c.if-is_mail_from.true in
    λ k. looped_leaves c.loop-line.invariant (c.tried.ensures.is _ k _ (piece_of seeking line.line.ends line.passes (seeking_from _ line.line from)))

-- it is skipped
pub loop-line-preserved : goal.loop-line-preserved
unfolding wants enter enters
loop-line-preserved c = let line = c.in_ok-line.ensures in
    let other = sym c.is_mail_from.ensures ∙ c.if-is_mail_from.false in
    looped_still c.loop-line.invariant (piece_of seeking line.line.ends line.passes (seeking_on _ line.line other)) refl refl
