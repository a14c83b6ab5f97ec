-- `maillist::answer` meets its contract, by the first byte. Assumes nothing.
use mathlib.Core.Path.{sym, ◌∙◌}
use Rattle.reading.proofs.Words.{rest_is}
use Rattle.maillist.proofs.Laws.{none_printed, bad_printed, entry_printed}
use Rattle.maillist.proofs.answer.Goals as goal

-- an empty input
pub returns-then-input-eq0 : goal.returns-then-input-eq0
returns-then-input-eq0 c = none_printed _ c.if-input-eq0.true c.requires c.put.ensures

-- no entry's letter
pub returns-in-None : goal.returns-in-None
returns-in-None c = let room = c.requires in
    bad_printed _ c.if-input-eq0.false (sym c.entry_of.ensures ∙ c.in-None.is) room c.put-in-None.ensures

-- an entry's
pub returns-in-Some : goal.returns-in-Some
returns-in-Some c = let input = c.args.input.now in
    let list-ensures = c.list.ensures in
    entry_printed _ c.if-input-eq0.false _ (sym c.entry_of.ensures ∙ c.in-Some.is) (rw (rest_is input 1) at list-ensures)
