-- `phases::lines::closing` meets its contract, by what the two bytes are. Assumes nothing.
use mathlib.Core.Path.{refl}
use Rattle.rules.specs.Phases.{closing, wants}
use Rattle.windows.specs.Stands.{enter, enters}
use Rattle.phases.specs.Phasing.{state_of, Fits}
use Rattle.phases.specs.declared.Phase.TheVariants.{Closing}
use Rattle.phases.proofs.Reactions.{closing_crlf, closing_not}
use Rattle.phases.proofs.Turning.{pair_waits, pair_ends, pair_leads, stopped}
use Rattle.phases.proofs.lines.closing.Goals.{in-Crlf, in-Hyphens}
use Rattle.phases.proofs.lines.closing.Goals as goal

-- they are not there
pub returns-in_err-two_bytes : goal.returns-in_err-two_bytes
unfolding wants state_of Fits
returns-in_err-two_bytes c = λ set k t. stopped _ c.from_residual.ensures.1 (pair_waits k t Closing closing refl refl c.in_err-two_bytes.ensures c.requires tt)

-- CRLF: a command follows; anything else: the session is over
pub returns : goal.returns
unfolding wants state_of enter enters Fits
returns c = let d = c.in_ok-two_bytes.ensures in
    let ends = pair_ends _ _ _ d in
    λ set k t.
    elim c.match-branch-2.branch [
      | in-Crlf x ↦ rw x.phase-is (pair_leads k t Closing closing refl refl ends (closing_crlf _ (rw x.in-Crlf.is at d)) (record { is = refl; fits = tt }))
      | in-Hyphens x ↦ rw x.phase-is (pair_leads k t Closing closing refl refl ends (closing_not _ _ _ _ x.in-Hyphens.is d) (record { is = refl; fits = tt }))
    ]
