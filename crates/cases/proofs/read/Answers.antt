-- `cases::read` meets its contract, by how many bytes were read. Assumes nothing.
use native.Mathlib.Omega.{arith}
use Rattle.cases.specs.Cases.{unread, cut, read}
use Rattle.cases.proofs.Laws.{taken_whole}
use Rattle.cases.proofs.read.Goals as goal

pub returns-in_default : goal.returns-in_default
returns-in_default g c = record { which = unread; bytes = tt }

pub returns-then-n-buf : goal.returns-then-n-buf
returns-then-n-buf g c =
    let taken = c.in-Ok.ensures.bytes in
    record { which = cut; bytes = (c.in-Ok.n, c.if-n-buf.true, taken.0, taken.1 c.if-n-buf.true) }

pub returns : goal.returns
returns g c =
    record { which = read; bytes = taken_whole _ _ _ _ (omega (arith, c.if-n-buf.false)) c.in-Ok.ensures.bytes.0 }
