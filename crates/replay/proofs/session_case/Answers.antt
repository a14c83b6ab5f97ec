-- `replay::session_case` meets its contract: broken, or judged by the answer on a table that holds the pattern. Assumes nothing.
use Rattle.std.proofs.Common.{arith, rules, sym, ◌∙◌}
use Rattle.cases.proofs.Laws.{lent_is}
use Rattle.cases.specs.Cases.{pattern}
use Rattle.input.proofs.Lent.{lent_front, lent_room, lent_filled}
use Rattle.rules.proofs.Kept.{written}
use Rattle.replay.proofs.Laws.{session_judged}
use Rattle.replay.proofs.session_case.Goals as goal

pub agrees-requires : goal.agrees-requires
agrees-requires c = (written _ _ _ _ _ c.dissect-a.ensures, search rules)

-- ---- its answer is judged
pub returns : goal.returns
returns c = let a = c.args in
    let within = c.in_ok-lent.ensures.within in
    let table_is = lent_filled _ a.table.now _ within pattern c.fill.ensures in
    let dissect-is = c.dissect-a.ensures in
    let size = lent_is _ _ _ _ (sym c.lent.ensures.is ∙ c.in_ok-lent.was) in
    session_judged _ _ _ _ _ _ c.read.auto.buf c.four-n.ensures
    (lent_room _ a.events.now c.read-2.new.buf (omega (arith, c.if-events-n.false)) c.read-2.auto.buf) size
    (rw table_is at dissect-is) (lent_front _ a.events.now c.read-2.new.buf (omega (arith, c.if-events-n.false)) c.read-2.auto.buf) c.agrees.ensures c.four.ensures
