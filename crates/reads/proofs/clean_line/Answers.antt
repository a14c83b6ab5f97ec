-- `reads::clean_line` meets its contract: a line, and where its clean part ends. Assumes nothing.
use Prim.Native.Nat.{◌+◌}
use native.Mathlib.Omega.{arith}
use Rattle.reads.specs.Clauses.{Cleaned}
use Rattle.reads.proofs.Laws.{cleaned}
use Rattle.reads.proofs.clean_line.Goals.{After-clean_end}
use Rattle.reads.proofs.clean_line.Goals as goal

-- the line, and where its clean part ends
clean-to : (c : After-clean_end) →
    let a = c.args in
    Cleaned a.s.now a.at (a.at + c.clean_end.result) c.in_ok-end.end
clean-to c = cleaned c.in_ok-end.ensures c.clean_end.ensures

pub overflow_add-clean : goal.overflow_add-clean
overflow_add-clean c = omega (arith, (clean-to c).within, (clean-to c).ends.within)

pub returns : goal.returns
returns c = clean-to (goal.at.returns c).After-clean_end
