-- `sessions::body::body` meets its contract: the body's start, then its lines. Assumes nothing.
use mathlib.Core.List.{[]}
use Rattle.rules.specs.Phases.{reads, text}
use Rattle.sessions.proofs.Steps.{note_stop, note, is_err}
use Rattle.sessions.proofs.body.body.Goals as goal

-- the body's start finds no slot
pub returns-in_err-log : goal.returns-in_err-log
returns-in_err-log c = λ m. rw (is_err _ c.from_residual.ensures.1) (note_stop [] (reads (text m _)) c.in_err-log.ensures)

-- it is listed, and the lines follow
pub returns : goal.returns
returns c = λ m. note [] (reads (text m _)) c.in_ok-log.ensures (c.body_lines.ensures m)
