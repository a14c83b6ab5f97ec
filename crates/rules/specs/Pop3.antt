-- POP3 server: document 01, 'POP3 server'.
-- Assumes nothing.
use Rattle.std.specs.Prelude.{cond, List, [], ℕ, ◌+◌, length}
use Rattle.events.specs.Events.{ev, server_line}
use Rattle.events.specs.declared.Encoding.TheVariants.{Unsaid}
use Rattle.events.specs.declared.Outcome.TheVariants.{Done}
use Rattle.fields.specs.Common.{unknown}
use Rattle.fields.specs.Pop3.{stls_answer, retr_answer}
use Rattle.reading.specs.Reading.{clean}
use Rattle.rules.specs.Machine.{Reaction}
use Rattle.rules.specs.Phases.{State, status, head, then, stop, ahead}
use Rattle.rules.specs.declared.Mail.TheVariants.{Pop3}

-- every clean line is listed; a TLS answer: done; a retrieval: a mail follows
unfoldable pub on_status : ℕ → List ℕ → Reaction State
on_status at l =
    ahead (ev server_line at (length (clean l)) Unsaid)
    (cond (stls_answer (clean l)) (stop [] Done (at + length l))
    (cond (retr_answer (clean l)) (then [] (head Pop3 unknown []))
    (then [] status)))
