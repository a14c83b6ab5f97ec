-- `phases::parts::opened` meets its contract, by what the two bytes are. Assumes nothing.
use mathlib.Core.Path.{refl}
use native.Mathlib.Omega.{arith}
use Rattle.rules.specs.Phases as phase
use Rattle.rules.specs.Phases.{wants}
use Rattle.phases.specs.Phasing.{slot, outside, state_of, Fits}
use Rattle.phases.specs.declared.Phase.TheVariants.{Opened}
use Rattle.phases.proofs.Heading.{begins_later}
use Rattle.phases.proofs.Parting.{opened_crlf, opened_not, enters_part, enters_over}
use Rattle.phases.proofs.Turning.{pair_waits, pair_ends, pair_leads, stopped}
use Rattle.phases.proofs.parts.opened.Goals.{in-Crlf, in-Hyphens}
use Rattle.phases.proofs.parts.opened.Goals as goal

-- they are not there
pub returns-in_err-two_bytes : goal.returns-in_err-two_bytes
unfolding wants state_of Fits
returns-in_err-two_bytes c = let a = c.args in
    λ set k t.
    stopped _ c.from_residual.ensures.1
    (pair_waits k t (Opened a.mail a.level) (phase.opened a.mail (slot k a.level) (outside k a.level)) refl refl c.in_err-two_bytes.ensures c.requires.0
    (c.requires.1, c.requires.2))

-- CRLF: a part's header; anything else: the session is over
pub returns : goal.returns
unfolding wants state_of
returns c = let d = c.in_ok-two_bytes.ensures in
    let a = c.args in
    let ends = pair_ends _ _ _ d in
    λ set k t.
    let b = slot k a.level in
    let os = outside k a.level in
    let so = phase.opened a.mail b os in
    elim c.match-branch-2.branch [
      | in-Crlf x ↦
          rw x.phase-is (pair_leads k t (Opened a.mail a.level) so refl refl ends (opened_crlf a.mail b os _ (rw x.in-Crlf.is at d))
          (enters_part k a.mail a.level _ x.unheard.ensures c.requires.1 (begins_later _ c.requires.2 (omega arith))))
      | in-Hyphens x ↦ rw x.phase-is (pair_leads k t (Opened a.mail a.level) so refl refl ends (opened_not _ _ a.mail b os _ _ x.in-Hyphens.is d) (enters_over k _ _ _))
    ]
