-- `fields::pop3::octets_follow` meets its contract: white space, one byte at least, then `octets`. Assumes nothing.
use mathlib.Core.Path.{◌≡◌}
use native.Mathlib.Omega.{arith}
use Rattle.std.proofs.Common.{rules}
use Rattle.classes.specs.Classes.{is_pop_white}
use Rattle.reading.specs.Bytes.{starts_with}
use Rattle.reading.specs.Text.{text}
use Rattle.fields.specs.Pop3.{octets_follow}
use Rattle.fields.specs.Runs.{lead}
use Rattle.fields.proofs.Behind.{run_within, behind_none, behind_some}
use Rattle.fields.proofs.pop3.octets_follow.Goals.{After-leading-white}
use Rattle.fields.proofs.pop3.octets_follow.Goals as goal

white : (c : After-leading-white) → c.leading-white.result ≡ lead is_pop_white c.args.l.now
white c = c.leading-white.ensures is_pop_white (λ b r l e. search rules)

pub slice_bounds-starts_with-count : goal.slice_bounds-starts_with-count
slice_bounds-starts_with-count c = run_within is_pop_white _ (white (goal.at.slice_bounds-starts_with-count c).After-leading-white)

pub slice_bounds-starts_with-start : goal.slice_bounds-starts_with-start
slice_bounds-starts_with-start c = run_within is_pop_white _ (white (goal.at.slice_bounds-starts_with-start c).After-leading-white)

pub returns-then-white-gt0 : goal.returns-then-white-gt0
unfolding octets_follow
returns-then-white-gt0 c =
    behind_some is_pop_white _ (white (goal.at.returns-then-white-gt0 c).After-leading-white) (starts_with (text "octets")) (omega arith) c.starts_with.ensures

pub returns-else-white-gt0 : goal.returns-else-white-gt0
unfolding octets_follow
returns-else-white-gt0 c = behind_none is_pop_white _ (white (goal.at.returns-else-white-gt0 c).After-leading-white) (starts_with (text "octets")) (omega arith)
