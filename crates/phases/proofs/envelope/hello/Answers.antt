-- `phases::envelope::hello` meets its contract. Assumes nothing.
use mathlib.Core.Path.{refl, sym, ◌∙◌}
use Rattle.rules.specs.Phases.{hello, wants}
use Rattle.windows.specs.Stands.{enter, enters}
use Rattle.phases.specs.Phasing.{state_of, Fits}
use Rattle.phases.proofs.Reactions.{hello_yes, hello_not}
use Rattle.phases.proofs.Turning.{piece_of, leads_still, halts, stopped}
use Rattle.phases.proofs.envelope.hello.Goals as goal

-- no line is finished, or it is refused
pub returns-in_err-e : goal.returns-in_err-e
unfolding wants state_of Fits
returns-in_err-e c = λ k t. stopped _ c.from_residual.ensures.1 (halts k t hello refl refl c.in_err-e.ensures c.requires tt)

-- HELO or EHLO: a second line follows
pub returns-then-starts_with_helo : goal.returns-then-starts_with_helo
unfolding wants state_of enter enters Fits
returns-then-starts_with_helo c = let line = c.in_ok-e.ensures in
    let helo = sym c.starts_with_helo.ensures ∙ c.if-starts_with_helo.true in
    λ k t. leads_still (piece_of hello line.ends line.passes (hello_yes _ _ helo)) refl (record { is = refl; fits = tt })

-- neither: the session is over
pub returns : goal.returns
unfolding wants state_of enter enters Fits
returns c = let line = c.in_ok-e.ensures in
    let other = sym c.starts_with_helo.ensures ∙ c.if-starts_with_helo.false in
    λ k t. leads_still (piece_of hello line.ends line.passes (hello_not _ _ other)) refl (record { is = refl; fits = tt })
