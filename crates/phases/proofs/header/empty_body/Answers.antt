-- `phases::header::empty_body` meets its contract: its start, and its stop. Assumes nothing.
use mathlib.Core.List.{[], ◌∷◌}
use Rattle.std.proofs.lemmas.Result.{err_from_is_err_and}
use Rattle.events.specs.Events.{ev, body_stop}
use Rattle.events.specs.declared.Encoding.TheVariants.{Unsaid}
use Rattle.reads.proofs.Notes.{notes_on, notes_none}
use Rattle.phases.proofs.header.empty_body.Goals as goal

-- the start finds no slot
pub returns-in_err-log : goal.returns-in_err-log
returns-in_err-log c = let left = err_from_is_err_and c.from_residual.result c.from_residual.ensures.1 in
    rw (left.1, left.2) (notes_none (ev body_stop _ 0 Unsaid ∷ []) c.in_err-log.ensures)

-- it is written, and the stop follows
pub returns : goal.returns
returns c = notes_on (ev body_stop _ 0 Unsaid ∷ []) c.note-2.result c.note-2.new.table c.in_ok-log.ensures c.note-2.ensures
