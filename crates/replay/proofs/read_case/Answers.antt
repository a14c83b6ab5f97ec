-- `replay::read_case` meets its contract, by the record's letter. Assumes nothing.
use Rattle.std.proofs.Common.{sym, ◌∙◌}
use Rattle.std.proofs.lemmas.Option.{IfSome_then}
use Rattle.input.proofs.Lent.{lent_front, lent_room}
use Rattle.replay.specs.Replay.{direction, session}
use Rattle.replay.proofs.read_case.Goals as goal

-- ---- a direction case
pub returns-then-head-eq68 : goal.returns-then-head-eq68
returns-then-head-eq68 c =
    let room = lent_room _ c.args.bytes.now c.read.new.buf c.if-bytes-head.false c.read.auto.buf in
    let front = lent_front _ c.args.bytes.now c.read.new.buf c.if-bytes-head.false c.read.auto.buf in
    IfSome_then _ c.direction_case.ensures (λ r w. direction c.if-head-eq68.true room (rw front w))

-- ---- a session
pub returns : goal.returns
returns c =
    let room = lent_room _ c.args.bytes.now c.read.new.buf c.if-bytes-head.false c.read.auto.buf in
    let front = lent_front _ c.args.bytes.now c.read.new.buf c.if-bytes-head.false c.read.auto.buf in
    IfSome_then _ c.session_case.ensures (λ r w. session _ (sym c.entry_of.ensures ∙ c.in_ok-entry.was) room (rw front w))
