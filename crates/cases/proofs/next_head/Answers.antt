-- `cases::next_head` meets its contract, by how many bytes were read. Assumes nothing.
use mathlib.Core.Path.{refl}
use native.Mathlib.Omega.{arith}
use lib.ListN.{take}
use Rattle.cases.specs.Cases.{end, no_head, half_head, head}
use Rattle.cases.proofs.Laws.{taken_none, taken_whole, part_length}
use Rattle.cases.proofs.next_head.Goals as goal

pub returns-in-Err : goal.returns-in-Err
returns-in-Err g c = record { head = no_head; bytes = tt }

pub returns-in-Ok-eq0 : goal.returns-in-Ok-eq0
returns-in-Ok-eq0 g c =
    let taken = c.in-Ok-eq0.ensures.bytes in
    record { head = end; bytes = (taken_none _ _ _ _ c.in-Ok-eq0.field-0-test taken.0, taken.1 (omega (arith, c.fill.auto.buf, c.in-Ok-eq0.field-0-test))) }

pub returns-in-Ok-eq9 : goal.returns-in-Ok-eq9
returns-in-Ok-eq9 g c =
    let long = c.fill.auto.buf in
    let all = taken_whole _ _ _ _ (omega (arith, long, c.in-Ok-eq9.field-0-test)) c.in-Ok-eq9.ensures.bytes.0 in
    rw c.head_of.ensures (record { head = head _ long; bytes = (c.fill.new.buf, long, refl, all) })

pub returns-in-Ok : goal.returns-in-Ok
returns-in-Ok g c =
    let n = c.in-Ok.field-0 in
    let taken = c.in-Ok.ensures.bytes in
    let part = part_length n c.fill.new.buf c.in-Ok.ensures.room in
    record {
      head = half_head;
      bytes = (
        take n c.fill.new.buf,
        omega (arith, part, c.in-Ok.field-0-test),
        omega (arith, part, c.fill.auto.buf, c.in-Ok.ensures.room, c.in-Ok.field-0-test),
        taken.0,
        taken.1 (omega (arith, c.fill.auto.buf, c.in-Ok.ensures.room, c.in-Ok.field-0-test)),
      );
    }
