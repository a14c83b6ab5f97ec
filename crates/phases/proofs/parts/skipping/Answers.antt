-- `skipping`: a turn of its loop, and how it is left.
use mathlib.Core.Path.{◌≡◌, refl, sym, ap, ◌∙◌}
use mathlib.Core.Bool.{false}
use mathlib.Core.List.{[]}
use Prim.Native.Nat.{◌+◌}
use lib.ListN.{length}
use native.Mathlib.Omega.{arith}
use Rattle.rules.specs.Mail.{skip}
use Rattle.rules.specs.Phases as phase
use Rattle.rules.specs.Phases.{wants}
use Rattle.phases.specs.Phasing.{slot, outside, state_of, Fits, Piece}
use Rattle.phases.specs.declared.Phase.TheVariants as is
use Rattle.phases.proofs.Turning.{looped_still, looped_goes, looped_leaves, piece_of, leads_still, halts, stopped}
use Rattle.phases.proofs.Heading.{begins_later}
use Rattle.phases.proofs.Parting.{outermost_is, skipping_last, skipping_on, enters_resting, skips_on}
use Rattle.phases.proofs.parts.skipping.Goals.{After-last_line}
use Rattle.phases.proofs.parts.skipping.Goals as goal

-- no line is finished, or it is refused
pub returns-in_err-e : goal.returns-in_err-e
unfolding state_of Fits wants
returns-in_err-e c = let a = c.args in
    let k = a.kept.now in
    λ t.
    let i = c.loop-e.invariant t in
    stopped _ c.from_residual.ensures.1
    (looped_goes i (halts k t (phase.skipping a.mail (slot k a.level) (outside k a.level)) refl refl c.in_err-e.ensures i.came.within
    (c.requires.1, begins_later _ c.requires.3 (omega (arith, i.from)))))

-- the level is left
pub returns-then-last_line : goal.returns-then-last_line
unfolding state_of wants
returns-then-last_line c = let d = c.in_ok-e.ensures in
    let a = c.args in
    let b = slot a.kept.now a.level in
    let os = outside a.kept.now a.level in
    let q = outermost_is a.kept.now a.level a.mail _ (rw c.boundary-b.ensures at (sym c.last_line.ensures ∙ c.if-last_line.true)) in
    λ t.
    looped_leaves (c.loop-e.invariant t)
    (leads_still (piece_of (phase.skipping a.mail b os) d.ends d.passes (skipping_last a.w.base a.mail b os d.ends q)) refl (c.popped.ensures a.kept.now))

-- ---- it is not: what is skipped next
skipped : (c : After-last_line) → c.last_line.result ≡ false →
    let a = c.args in
    Piece a.w.settings a.w.bytes.now a.w.base c.loop-e.p (state_of a.kept.now (is.Skipping a.mail a.level)) c.in_ok-e.e
    (record { events = []; next = skip a.mail (slot a.kept.now a.level) (outside a.kept.now a.level) (a.w.base + c.in_ok-e.e) })
unfolding state_of wants
skipped c h =
    let d = c.in_ok-e.ensures in
    let a = c.args in
    let b = slot a.kept.now a.level in
    let os = outside a.kept.now a.level in
    let q = outermost_is a.kept.now a.level a.mail _ (rw c.boundary-b.ensures at (sym c.last_line.ensures ∙ h)) in
    piece_of (phase.skipping a.mail b os) d.ends d.passes (skipping_on a.w.base a.mail b os d.ends q)

-- just the literal's rest
pub returns-in-Some : goal.returns-in-Some
returns-in-Some c = let a = c.args in
    let to = a.w.base + c.in_ok-e.e in
    λ t.
    looped_leaves (c.loop-e.invariant t)
    (leads_still (skipped (goal.at.returns-in-Some c).After-last_line c.if-last_line.false) refl
    (enters_resting a.kept.now a.mail to c.requires.1 (begins_later to c.requires.3 (omega (arith, (c.loop-e.invariant t).from, c.in_ok-e.ensures.ends.on)))
    (ap length c.boundary-b.ensures)
    (sym c.short_rest.ensures ∙ c.in-Some.is)))

-- another line
pub loop-e-preserved : goal.loop-e-preserved
loop-e-preserved c = let a = c.args in
    let to = a.w.base + c.in_ok-e.e in
    λ t.
    looped_still (c.loop-e.invariant t) (skipped (goal.at.loop-e-preserved c).After-last_line c.if-last_line.false) refl
    (skips_on a.kept.now a.mail to c.requires.1 (begins_later to c.requires.3 (omega (arith, (c.loop-e.invariant t).from, c.in_ok-e.ensures.ends.on)))
    (ap length c.boundary-b.ensures)
    (sym c.short_rest.ensures ∙ c.in_default.is))
