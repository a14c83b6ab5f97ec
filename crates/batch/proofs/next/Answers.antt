-- `batch::next` meets its contract, by what was read of the head. Assumes nothing.
use mathlib.Core.Path.{refl}
use Rattle.std.proofs.lemmas.Result.{err_from_is_err_and}
use Rattle.batch.specs.Batch.{headless, behind}
use Rattle.batch.proofs.next.Goals as goal

-- no head
pub returns-in_err-head : goal.returns-in_err-head
returns-in_err-head c = let left = err_from_is_err_and c.from_residual.result c.from_residual.ensures.1 in
    rw (left.1, left.2) (record { said = _; one = headless c.in_err-head.ensures.head; shows = (refl, refl) })

-- what stands behind a head
pub returns : goal.returns
returns c = let record-is = c.read_case.ensures in
    record { said = record-is.said; one = behind c.in_ok-head.ensures.head record-is.one; shows = record-is.shows }
