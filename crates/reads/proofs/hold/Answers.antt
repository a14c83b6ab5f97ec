-- `reads::hold` meets its contract, by whether the body is empty. Assumes nothing.
use mathlib.Core.List.{[], ◌∷◌}
use native.Mathlib.Omega.{arith}
use Rattle.std.proofs.lemmas.Result.{err_from_is_err_and}
use Rattle.events.specs.Events.{ev, body_stop}
use Rattle.events.specs.declared.Encoding.TheVariants.{Unsaid}
use Rattle.reads.proofs.Notes.{notes_on, notes_none, whole_some}
use Rattle.reads.proofs.hold.Goals as goal

-- its event finds no slot
pub returns-in_err-log : goal.returns-in_err-log
returns-in_err-log c = let left = err_from_is_err_and c.from_residual.result c.from_residual.ensures.1 in
    rw (left.1, left.2, whole_some _ _ _ c.args.n (λ e. omega arith)) (notes_none (ev body_stop _ 0 Unsaid ∷ []) c.in_err-log.ensures)

-- its event is listed, and its stop follows
pub returns : goal.returns
returns c = rw (whole_some _ _ _ c.args.n (λ e. omega arith)) (notes_on (ev body_stop _ 0 Unsaid ∷ []) c.note-3.result c.note-3.new.table c.in_ok-log.ensures c.note-3.ensures)
