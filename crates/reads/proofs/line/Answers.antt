-- `reads::line` meets its contract, by whether the line ends. Assumes nothing.
use mathlib.Core.Path.{sym, ◌∙◌}
use Prim.Native.Nat.{◌+◌}
use native.Mathlib.Omega.{arith}
use Rattle.reading.proofs.Words.{rest_is}
use Rattle.reading.specs.Reading.{a_line}
use Rattle.reads.specs.Clauses.{Ends}
use Rattle.reads.proofs.Laws.{ends_at}
use Rattle.reads.proofs.line.Goals.{In-Some}
use Rattle.reads.proofs.line.Goals as goal

-- there: the line
line-to : (c : In-Some) →
    let a = c.args in
    Ends a_line a.s.now a.at (a.at + c.in-Some.n)
line-to c = let place = rw rest_is at (sym c.line_end.ensures ∙ c.in-Some.is) in
    ends_at a_line c.args.s.now _ _ c.requires place

pub overflow_add-result : goal.overflow_add-result
overflow_add-result c = omega (arith, (line-to c).within)

pub returns : goal.returns
returns c = line-to c
