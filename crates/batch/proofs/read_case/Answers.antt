-- `batch::read_case` meets its contract, by how many of the record's bytes came. Assumes nothing.
use mathlib.Core.Path.{refl}
use Rattle.std.proofs.lemmas.Result.{err_from_is_err_and}
use Rattle.input.proofs.Lent.{lent_front, lent_room}
use Rattle.batch.specs.Batch.{large, partly, whole}
use Rattle.batch.proofs.read_case.Goals as goal

-- more bytes than the buffer has
pub returns-then-bytes-head : goal.returns-then-bytes-head
returns-then-bytes-head c = record { said = _; one = large c.if-bytes-head.true; shows = (refl, refl) }

-- they did not all come
pub returns-in_err-read : goal.returns-in_err-read
returns-in_err-read c = let left = err_from_is_err_and c.from_residual.result c.from_residual.ensures.1 in
    rw (left.1, left.2) (record { said = _; one = partly c.in_err-read.ensures.which; shows = (refl, refl) })

-- ---- all came
pub returns : goal.returns
returns c = let room = lent_room _ c.args.bytes.now c.read.new.buf c.if-bytes-head.false c.read.auto.buf in
    record { said = _; one = whole room; shows = rw (lent_front _ c.args.bytes.now c.read.new.buf c.if-bytes-head.false c.read.auto.buf) c.case.ensures }
