-- `fields::pop3::numbered` meets its contract: digits, one at least, that are a number of octets, and what follows them. Assumes nothing.
use mathlib.Core.Path.{◌≡◌, sym, ap, ◌∙◌}
use native.Mathlib.Omega.{arith}
use Rattle.std.proofs.Common.{rules}
use Rattle.classes.specs.Classes.{is_digit}
use Rattle.fields.specs.Pop3.{octets, octets_follow, numbered}
use Rattle.fields.specs.Runs.{lead}
use Rattle.fields.proofs.Behind.{run_none, run_some, run_within, run_length, run_is, behind_run}
use Rattle.fields.proofs.pop3.numbered.Goals.{After-leading-digits, After-octets}
use Rattle.fields.proofs.pop3.numbered.Goals as goal

digits : (c : After-leading-digits) → c.leading-digits.result ≡ lead is_digit c.args.l.now
digits c = c.leading-digits.ensures is_digit (λ b r l e. search rules)

-- no digit
pub returns-then-digits-eq0 : goal.returns-then-digits-eq0
unfolding numbered
returns-then-digits-eq0 c = rw (run_none is_digit _ (digits (goal.at.returns-then-digits-eq0 c).After-leading-digits) c.if-digits-eq0.true)

pub slice_bounds-octets-end : goal.slice_bounds-octets-end
slice_bounds-octets-end c = run_length is_digit _ (digits (goal.at.slice_bounds-octets-end c).After-leading-digits)

pub slice_bounds-octets_follow-count : goal.slice_bounds-octets_follow-count
slice_bounds-octets_follow-count c = run_within is_digit _ (digits (goal.at.slice_bounds-octets_follow-count c).After-leading-digits)

pub slice_bounds-octets_follow-start : goal.slice_bounds-octets_follow-start
slice_bounds-octets_follow-start c = run_within is_digit _ (digits (goal.at.slice_bounds-octets_follow-start c).After-leading-digits)

-- they are a number of octets: what follows them decides
pub returns-then-octets : goal.returns-then-octets
unfolding numbered
returns-then-octets c =
    let run = digits (goal.at.returns-then-octets c).After-leading-digits in
    rw (run_some is_digit _ run (omega arith), ap octets (sym (run_is is_digit _ run)) ∙ sym c.octets.ensures ∙ c.if-octets.true)
    (c.octets_follow.ensures ∙ ap octets_follow (behind_run is_digit _ run))

-- they are not
pub returns-else-octets : goal.returns-else-octets
unfolding numbered
returns-else-octets c =
    let run = digits (goal.at.returns-else-octets c).After-leading-digits in
    rw (run_some is_digit _ run (omega arith), ap octets (sym (run_is is_digit _ run)) ∙ sym c.octets.ensures ∙ c.if-octets.false) c.if-octets.false
