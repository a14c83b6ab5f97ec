-- `fields::imap::append_follows` meets its contract: blanks, one byte at least, then `APPEND`. Assumes nothing.
use mathlib.Core.Path.{◌≡◌}
use native.Mathlib.Omega.{arith}
use Rattle.std.proofs.Common.{rules}
use Rattle.classes.specs.Classes.{is_blank}
use Rattle.reading.specs.Bytes.{starts_with}
use Rattle.reading.specs.Text.{text}
use Rattle.fields.specs.Imap.{append_follows}
use Rattle.fields.specs.Runs.{lead}
use Rattle.fields.proofs.Behind.{run_within, behind_none, behind_some}
use Rattle.fields.proofs.imap.append_follows.Goals.{After-leading-blanks}
use Rattle.fields.proofs.imap.append_follows.Goals as goal

blanks : (c : After-leading-blanks) → c.leading-blanks.result ≡ lead is_blank c.args.l.now
blanks c = c.leading-blanks.ensures is_blank (λ b r l e. search rules)

pub slice_bounds-starts_with-count : goal.slice_bounds-starts_with-count
slice_bounds-starts_with-count c = run_within is_blank _ (blanks (goal.at.slice_bounds-starts_with-count c).After-leading-blanks)

pub slice_bounds-starts_with-start : goal.slice_bounds-starts_with-start
slice_bounds-starts_with-start c = run_within is_blank _ (blanks (goal.at.slice_bounds-starts_with-start c).After-leading-blanks)

pub returns-then-blanks-gt0 : goal.returns-then-blanks-gt0
unfolding append_follows
returns-then-blanks-gt0 c =
    behind_some is_blank _ (blanks (goal.at.returns-then-blanks-gt0 c).After-leading-blanks) (starts_with (text "APPEND")) (omega arith) c.starts_with.ensures

pub returns-else-blanks-gt0 : goal.returns-else-blanks-gt0
unfolding append_follows
returns-else-blanks-gt0 c = behind_none is_blank _ (blanks (goal.at.returns-else-blanks-gt0 c).After-leading-blanks) (starts_with (text "APPEND")) (omega arith)
