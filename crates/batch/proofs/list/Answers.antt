-- `batch::list` meets its contract: too large, touched, or listed. Assumes nothing.
use mathlib.Core.Path.{◌≡◌, refl, sym, ap, ◌∙◌}
use Prim.Native.Nat.{◌*◌}
use lib.ListN.{drop}
use Rattle.cases.specs.Cases.{pattern, only}
use Rattle.reading.proofs.Words.{rest_is}
use Rattle.batch.proofs.Laws.{large_listed, touched_listed, case_listed}
use Rattle.batch.proofs.list.Goals.{After-untouched}
use Rattle.batch.proofs.list.Goals as goal

-- a listing that may not fit
pub returns-then-out-a : goal.returns-then-out-a
returns-then-out-a c = large_listed _ _ _ c.if-out-a.true refl

-- what `untouched` answers is said of the table behind the events
behind-events : (c : After-untouched) →
    let a = c.args in
    only pattern (drop (4 * a.a.count) a.table.now) ≡ c.untouched.result
behind-events c = ap (only pattern) (sym (rest_is c.args.table.now _)) ∙ sym c.untouched.ensures

-- a number behind the events was written
pub returns-then-not-untouched : goal.returns-then-not-untouched
returns-then-not-untouched c =
    touched_listed _ _ _ c.if-out-a.false (behind-events (goal.at.returns-then-not-untouched c).After-untouched ∙ c.if-not-untouched.true) refl

-- none was
pub returns : goal.returns
returns c =
    case_listed _ _ _ c.if-out-a.false (behind-events (goal.at.returns c).After-untouched ∙ c.if-not-untouched.false) c.requires.1 c.append.ensures
