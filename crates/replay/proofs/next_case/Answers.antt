-- `replay::next_case` meets its contract: no head, or what stands behind one. Assumes nothing.
use Rattle.std.proofs.lemmas.Result.{err_from_is_err_and}
use Rattle.replay.specs.Replay.{headless}
use Rattle.replay.proofs.Laws.{case_behind, broken_behind}
use Rattle.replay.proofs.next_case.Goals as goal

pub returns-in_err-head : goal.returns-in_err-head
returns-in_err-head c = let left = err_from_is_err_and c.from_residual.result c.from_residual.ensures.1 in
    rw (left.1, left.2) (headless c.in_err-head.ensures.head)

-- a record was read: a case
pub returns-in-Some : goal.returns-in-Some
returns-in-Some c = case_behind _ c.in_ok-head.ensures.head c.read_case.ensures c.in-Some.is c.grouped.ensures

-- a broken one
pub returns-in-None : goal.returns-in-None
returns-in-None c = broken_behind _ c.in_ok-head.ensures.head c.read_case.ensures c.in-None.is
