use mathlib.Core.Path.{◌≡◌, sym, ◌∙◌}
use native.Mathlib.Omega.{arith}
use Rattle.fields.specs.Common.{part, bytes_of}
use Rattle.rules.specs.Mail.{last_line}
use Rattle.rules.specs.Phases.{skipping, resting, wants}
use Rattle.sessions.proofs.MailTurns.{read_as, skipping_last, skipping_on, resting_all, skip_by_rest, skip_by_line}
use Rattle.sessions.proofs.Steps.{here, read_stop, walked, is_err}
use Rattle.sessions.proofs.multi.epilogue.Goals.{After-last_line}
use Rattle.sessions.proofs.multi.epilogue.Goals as goal

-- ---- the literal's rest: it is skipped, and the search ends
pub returns-in_err-end : goal.returns-in_err-end
unfolding wants
returns-in_err-end c = let a = c.args in
    λ b os q t. rw (is_err _ c.from_residual.ensures.1) (walked (c.loop-outer.invariant.walks b os q t)
    (rw (skip_by_rest a.s.bytes.now a.mail b os _ a.outer _ c.literal_rest-rest.ensures q c.requires.2 (omega arith) (omega arith))
    (read_stop (resting a.mail b os _) c.in_err-end.ensures)))

pub returns-then-rest-outer : goal.returns-then-rest-outer
unfolding wants
returns-then-rest-outer c = let a = c.args in
    λ b os q t. walked (c.loop-outer.invariant.walks b os q t)
    (rw (skip_by_rest a.s.bytes.now a.mail b os _ a.outer _ c.literal_rest-rest.ensures q c.requires.2 (omega arith) (omega arith))
    (read_as (resting a.mail b os _) c.in_ok-end.ensures (resting_all c.in_ok-end.ensures a.mail b os _) (here _ c.in_ok-end.ensures.within)))

-- ---- a line: it is short
pub returns-in_err-end-2 : goal.returns-in_err-end-2
unfolding wants
returns-in_err-end-2 c = let a = c.args in
    λ b os q t. rw (is_err _ c.from_residual-in_err-end-2.ensures.1) (walked (c.loop-outer.invariant.walks b os q t)
    (rw (skip_by_line a.s.bytes.now a.mail b os _ a.outer _ c.literal_rest-rest.ensures q c.requires.2 (λ h. omega arith))
    (read_stop (skipping a.mail b os) c.in_err-end-2.ensures)))

-- there: what was answered of the outermost boundary
last : (c : After-last_line) →
    let a = c.args in
    last_line a.mail (bytes_of a.s.bytes.now a.outer) (part a.s.bytes.now c.loop-outer.here.at c.in_ok-end-2.end) ≡ c.last_line.result
last c = rw c.of.ensures at (sym c.last_line.ensures)

-- it is the last one
pub returns-then-last_line : goal.returns-then-last_line
unfolding wants
returns-then-last_line c = let a = c.args in
    let line = c.in_ok-end-2.ensures in
    let told = last (goal.at.returns-then-last_line c).After-last_line ∙ c.if-last_line.true in
    λ b os q t. walked (c.loop-outer.invariant.walks b os q t)
    (rw (skip_by_line a.s.bytes.now a.mail b os _ a.outer _ c.literal_rest-rest.ensures q c.requires.2 (λ h. omega arith))
    (read_as (skipping a.mail b os) line (skipping_last line a.mail b os (rw q told)) (here _ line.within)))

-- it is not: the search goes on behind it
pub loop-outer-preserved : goal.loop-outer-preserved
unfolding wants
loop-outer-preserved c = let a = c.args in
    let line = c.in_ok-end-2.ensures in
    let told = last (goal.at.loop-outer-preserved c).After-last_line ∙ c.if-last_line.false in
    record {
      on = omega (arith, c.loop-outer.invariant.on, line.on);
      within = line.within;
      walks = λ b os q t. walked (c.loop-outer.invariant.walks b os q t)
          (rw (skip_by_line a.s.bytes.now a.mail b os _ a.outer _ c.literal_rest-rest.ensures q c.requires.2 (λ h. omega arith))
          (read_as (skipping a.mail b os) line (skipping_on line a.mail b os (rw q told)) (here _ line.within)));
    }
