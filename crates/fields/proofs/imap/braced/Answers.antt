-- `fields::imap::braced` meets its contract: digits, one at least, a closing brace, and what the digits are worth. Assumes nothing.
use mathlib.Core.Path.{◌≡◌, sym, ap, ◌∙◌}
use native.Mathlib.Omega.{arith}
use Rattle.std.proofs.Common.{rules}
use Rattle.classes.specs.Classes.{is_digit}
use Rattle.reading.specs.Bytes.{starts_with}
use Rattle.fields.specs.Imap.{braced}
use Rattle.fields.specs.Runs.{lead, worth}
use Rattle.fields.proofs.Behind.{run_none, run_some, run_within, run_length, run_is, behind_run}
use Rattle.fields.proofs.Worth.{worth_or_zero}
use Rattle.fields.proofs.imap.braced.Goals.{After-leading-digits, then-digits-eq0-via-then-digits-eq0, then-digits-eq0-via-else-digits-eq0+then-not-starts_with}
use Rattle.fields.proofs.imap.braced.Goals as goal

digits : (c : After-leading-digits) → c.leading-digits.result ≡ lead is_digit c.args.l.now
digits c = c.leading-digits.ensures is_digit (λ b r l e. search rules)

-- no digit, or no closing brace behind them
pub returns-then-digits-eq0 : goal.returns-then-digits-eq0
unfolding braced
returns-then-digits-eq0 c =
    let run = digits (goal.at.returns-then-digits-eq0 c).After-leading-digits in
    elim c.then-digits-eq0.branch [
      | then-digits-eq0-via-then-digits-eq0 w ↦ rw (run_none is_digit _ run w.if-digits-eq0.true)
      | then-digits-eq0-via-else-digits-eq0+then-not-starts_with w ↦
          rw (
            run_some is_digit _ run (omega (arith, w.if-digits-eq0.false)),
            ap (starts_with _) (sym (behind_run is_digit _ run)) ∙ sym w.starts_with.ensures ∙ w.if-not-starts_with.true,
          )
    ]

pub slice_bounds-starts_with-count : goal.slice_bounds-starts_with-count
slice_bounds-starts_with-count c = run_within is_digit _ (digits (goal.at.slice_bounds-starts_with-count c).After-leading-digits)

pub slice_bounds-starts_with-start : goal.slice_bounds-starts_with-start
slice_bounds-starts_with-start c = run_within is_digit _ (digits (goal.at.slice_bounds-starts_with-start c).After-leading-digits)

pub slice_bounds-decimal-end : goal.slice_bounds-decimal-end
slice_bounds-decimal-end c = run_length is_digit _ (digits (goal.at.slice_bounds-decimal-end c).After-leading-digits)

-- what the digits are worth
pub returns : goal.returns
unfolding braced
returns c =
    let run = digits (goal.at.returns c).After-leading-digits in
    rw (
      run_some is_digit _ run (omega arith),
      ap (starts_with _) (sym (behind_run is_digit _ run)) ∙ sym c.starts_with.ensures ∙ c.if-not-starts_with.false,
      ap worth (sym (run_is is_digit _ run)),
      c.unwrap_or.ensures,
      c.decimal.ensures,
    )
    (worth_or_zero _ _)
