-- IMAP client: document 01, 'IMAP client'.
-- Assumes nothing.
use Rattle.std.specs.Prelude.{cond, List, [], ℕ, length}
use Rattle.events.specs.Events.{ev, client_line}
use Rattle.events.specs.declared.Encoding.TheVariants.{Unsaid}
use Rattle.events.specs.declared.Outcome.TheVariants.{OpenLiteral}
use Rattle.fields.specs.Common.{unknown}
use Rattle.fields.specs.Imap.{is_append, append_size, holds_colon}
use Rattle.reading.specs.Bytes.{same}
use Rattle.reading.specs.Reading.{clean, crlf}
use Rattle.rules.specs.Machine.{Reaction}
use Rattle.rules.specs.Mail.{on_head}
use Rattle.rules.specs.Phases.{State, command, offered, then, stop, ahead}
use Rattle.rules.specs.declared.Mail.TheVariants.{Imap}

-- every clean line is listed; an append offers a mail of its size
unfoldable pub on_command : ℕ → List ℕ → Reaction State
on_command at l =
    ahead (ev client_line at (length (clean l)) Unsaid)
    (cond (is_append (clean l)) (then [] (offered (append_size (clean l)))) (then [] command))

-- if the next line, only peeked at, holds a colon, a mail follows, and its header begins here; else the line is a command
unfoldable pub on_offered : ℕ → ℕ → List ℕ → Reaction State
on_offered size at l = cond (holds_colon l) (on_head (Imap size at) unknown [] at l) (on_command at l)

-- then CRLF
unfoldable pub on_closing : ℕ → List ℕ → Reaction State
on_closing at l = cond (same crlf l) (then [] command) (stop [] OpenLiteral at)
