-- `sessions::buffer::Buffer::delimited` meets its contract, by whether there is a delimiter. Assumes nothing.
use mathlib.Core.Path.{sym, ◌∙◌}
use Prim.Native.Nat.{◌+◌}
use native.Mathlib.Omega.{arith}
use Rattle.fields.specs.Common.{bytes_of}
use Rattle.reading.proofs.Words.{rest_is}
use Rattle.reading.specs.Reading.{delimiter}
use Rattle.reads.specs.Clauses.{Ends}
use Rattle.sessions.proofs.Readings.{delimited_ends, delimited_short}
use Rattle.sessions.proofs.buffer.Buffer.delimited.Goals.{In-Some}
use Rattle.sessions.proofs.buffer.Buffer.delimited.Goals as goal

-- there: where the delimiter ends
delimiter-to : (c : In-Some) →
    let a = c.args in
    Ends (delimiter (bytes_of a.self.bytes.now a.b)) a.self.bytes.now a.here.at (a.here.at + c.in-Some.p + 2 + a.b.len)
delimiter-to c = let place = rw (rest_is, c.of.ensures) at (sym c.delimiter.ensures ∙ c.in-Some.is) in
    delimited_ends c.args.self.bytes.now _ _ c.args.b c.requires.0 c.requires.1 place

pub overflow_add-result : goal.overflow_add-result
overflow_add-result c = omega (arith, (delimiter-to (goal.at.overflow_add-result c).In-Some).within)

pub overflow_add-result-in-Some : goal.overflow_add-result-in-Some
overflow_add-result-in-Some c = omega (arith, (delimiter-to (goal.at.overflow_add-result-in-Some c).In-Some).within)

pub overflow_add-result-in-Some-2 : goal.overflow_add-result-in-Some-2
overflow_add-result-in-Some-2 c = omega (arith, (delimiter-to (goal.at.overflow_add-result-in-Some-2 c).In-Some).within)

pub returns-in-Some : goal.returns-in-Some
returns-in-Some c = delimiter-to (goal.at.returns-in-Some c).In-Some

-- ---- there is none
pub returns-in-None : goal.returns-in-None
returns-in-None c = delimited_short c.args.self.bytes.now _ _ c.args.b (rw (rest_is, c.of.ensures) at (sym c.delimiter.ensures ∙ c.in-None.is)) c.stop.ensures
