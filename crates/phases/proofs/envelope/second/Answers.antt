-- `phases::envelope::second` meets its contract, by what the line is. Assumes nothing.
use mathlib.Core.Path.{refl, sym, ◌∙◌}
use Rattle.rules.specs.Phases.{second, wants}
use Rattle.rules.specs.Smtp.{by_second}
use Rattle.windows.specs.Stands.{enter, enters}
use Rattle.phases.specs.Phasing.{state_of, Fits}
use Rattle.phases.proofs.Reactions.{second_by}
use Rattle.phases.proofs.Turning.{piece_of, leads_still, halts, stopped}
use Rattle.phases.proofs.envelope.second.Goals as goal

-- no line is finished, or it is refused
pub returns-in_err-line : goal.returns-in_err-line
unfolding wants state_of Fits
returns-in_err-line c = λ k. stopped _ c.from_residual.ensures.1 (halts k _ second refl refl c.in_err-line.ensures c.requires tt)

-- STARTTLS: the session is over
pub returns-in-StartTls : goal.returns-in-StartTls
unfolding wants state_of enter enters Fits by_second
returns-in-StartTls c = let line = c.in_ok-line.ensures in
    let which = sym c.in-StartTls.is ∙ c.second_line.ensures in
    λ k. leads_still (piece_of second line.line.ends line.passes (second_by _ line.line which)) refl (record { is = refl; fits = tt })

-- AUTH LOGIN: a user follows
pub returns-in-AuthLogin : goal.returns-in-AuthLogin
unfolding wants state_of enter enters Fits by_second
returns-in-AuthLogin c = let line = c.in_ok-line.ensures in
    let which = sym c.in-AuthLogin.is ∙ c.second_line.ensures in
    λ k. leads_still (piece_of second line.line.ends line.passes (second_by _ line.line which)) refl (record { is = refl; fits = tt })

-- MAIL FROM: it is tried
pub returns-in-MailFrom : goal.returns-in-MailFrom
unfolding wants state_of by_second
returns-in-MailFrom c = let line = c.in_ok-line.ensures in
    let which = sym c.in-MailFrom.is ∙ c.second_line.ensures in
    λ k. c.tried.ensures.is _ k _ (piece_of second line.line.ends line.passes (second_by _ line.line which))

-- anything else: lines up to a sender follow
pub returns-in-Other : goal.returns-in-Other
unfolding wants state_of enter enters Fits by_second
returns-in-Other c = let line = c.in_ok-line.ensures in
    let which = sym c.in-Other.is ∙ c.second_line.ensures in
    λ k. leads_still (piece_of second line.line.ends line.passes (second_by _ line.line which)) refl (record { is = refl; fits = tt })
