-- `sessions::buffer::Buffer::note_line` meets its contract: a clean line, and its event. Assumes nothing.
use Rattle.sessions.proofs.Lines.{lined_to}
use Rattle.sessions.proofs.buffer.Buffer.note_line.Goals as goal

pub returns : goal.returns
returns c = lined_to _ _ _ _ _ c.in_ok-l.ensures c.in_ok-log.ensures
