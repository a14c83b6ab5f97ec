-- `phases::parts::between` meets its contract, by what the two bytes are. Assumes nothing.
use mathlib.Core.Path.{refl}
use native.Mathlib.Omega.{arith}
use Rattle.rules.specs.Mail.{skip}
use Rattle.rules.specs.Phases as phase
use Rattle.rules.specs.Phases.{wants}
use Rattle.phases.specs.Phasing.{slot, outside, state_of, Fits}
use Rattle.phases.specs.declared.Phase.TheVariants.{Between}
use Rattle.phases.proofs.Heading.{begins_later}
use Rattle.phases.proofs.Parting.{between_crlf, between_hyphens, between_other, enters_part, enters_over, enters_behind}
use Rattle.phases.proofs.Turning.{pair_waits, pair_ends, pair_leads, stopped}
use Rattle.phases.proofs.parts.between.Goals.{in-Crlf, in-Hyphens, in-Other}
use Rattle.phases.proofs.parts.between.Goals as goal

-- they are not there
pub returns-in_err-two_bytes : goal.returns-in_err-two_bytes
unfolding wants state_of Fits
returns-in_err-two_bytes c = let a = c.args in
    let k = a.kept.now in
    λ set t.
    stopped _ c.from_residual.ensures.1
    (pair_waits k t (Between a.mail a.level) (phase.between a.mail (slot k a.level) (outside k a.level)) refl refl c.in_err-two_bytes.ensures c.requires.0
    (c.requires.1, c.requires.3))

-- CRLF: the next part's header; two hyphens: what follows a close; anything else: the session is over
pub returns : goal.returns
unfolding wants state_of
returns c = let d = c.in_ok-two_bytes.ensures in
    let a = c.args in
    let k = a.kept.now in
    let b = slot k a.level in
    let os = outside k a.level in
    let ends = pair_ends _ _ _ d in
    λ set t.
    let so = phase.between a.mail b os in
    let here = Between a.mail a.level in
    elim c.match-branch-2.branch [
      | in-Crlf x ↦
          rw x.phase-is (pair_leads k t here so refl refl ends (between_crlf a.mail b os _ (rw x.in-Crlf.is at d))
          (enters_part k a.mail a.level _ x.unheard.ensures c.requires.1 (begins_later _ c.requires.3 (omega arith))))
      | in-Hyphens x ↦
          rw x.phase-is (pair_leads k t here so refl refl ends (between_hyphens a.mail b os _ (rw x.in-Hyphens.is at d))
          (enters_behind a.w.base a.p 2 k (skip a.mail b os) x.closed-phase.result x.closed-phase.ensures))
      | in-Other x ↦ rw x.phase-is (pair_leads k t here so refl refl ends (between_other a.mail b os _ (rw x.in-Other.is at d)) (enters_over k _ _ _))
    ]
