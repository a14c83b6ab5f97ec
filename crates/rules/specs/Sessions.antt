-- The sessions: what each phase does with its piece, and what each entry answers on a buffer and a table.
-- Document 01, 'What comes back' and 'Sessions'.
-- Assumes nothing.
use Rattle.std.specs.Prelude.{cond, List, [], ℕ, ltb, length}
use Rattle.events.specs.Table.{Final, final, no_events, pour, finish}
use Rattle.events.specs.declared.Log.{Log}
use Rattle.events.specs.declared.Outcome.{Outcome}
use Rattle.events.specs.declared.Outcome.TheVariants.{Incomplete, TooLong}
use Rattle.reading.specs.Reading.{Got, fetch}
use Rattle.rules.specs.Imap.{on_command, on_offered, on_closing}
use Rattle.rules.specs.Machine.{Reaction, Ran, run}
use Rattle.rules.specs.Mail.{on_head, on_text, on_literal, on_preamble, on_opened, on_content, on_between, on_skipping, on_resting}
use Rattle.rules.specs.Phases.{Phase, State, reads, ends, need, stop}
use Rattle.rules.specs.Pop3.{on_status}
use Rattle.rules.specs.Smtp.{on_hello, on_second, on_user, on_password, on_sender, on_seeking, on_recipient, on_reply}
use Rattle.rules.specs.Phases
use Rattle.rules.specs.declared.Entry.{Entry}
use Rattle.rules.specs.declared.Entry.TheVariants.{SmtpClient, SmtpServer, Pop3Server, ImapClient}

-- what each phase does with the piece l that begins at `at`
unfoldable pub reacts : Phase → ℕ → List ℕ → Reaction State
reacts Phases.hello at l = on_hello at l
reacts Phases.second at l = on_second at l
reacts Phases.user at l = on_user at l
reacts Phases.password at l = on_password at l
reacts Phases.sender at l = on_sender at l
reacts Phases.seeking at l = on_seeking at l
reacts Phases.recipient at l = on_recipient at l
reacts Phases.reply at l = on_reply at l
reacts Phases.status at l = on_status at l
reacts Phases.command at l = on_command at l
reacts (Phases.offered size) at l = on_offered size at l
reacts Phases.closing at l = on_closing at l
reacts (Phases.head m k os) at l = on_head m k os at l
reacts (Phases.text m e) at l = on_text m e at l
reacts (Phases.literal e n) at l = on_literal e at (length l)
reacts (Phases.preamble m b os) at l = on_preamble m b os
reacts (Phases.opened m b os) at l = on_opened m b os at l
reacts (Phases.content m e b os) at l = on_content m e b os at (length l)
reacts (Phases.between m b os) at l = on_between m b os at l
reacts (Phases.skipping m b os) at l = on_skipping m b os at l
reacts (Phases.resting m b os n) at l = on_resting m os at l

unfoldable pub react : State → ℕ → List ℕ → Reaction State
react (reads ph) at l = reacts ph at l
react (ends r p) at l = stop [] r p

-- a state takes the piece that it needs
abbrev pub fetches : State → List ℕ → Got
fetches st s = fetch (need st) s

abbrev pub session : State → ℕ → List ℕ → Ran State
session st at s = run State fetches react st at s

-- where a run has come to a phase that waits, it is incomplete, where that read began
unfoldable pub result_of : State → Outcome
result_of (reads ph) = Incomplete
result_of (ends r p) = r

unfoldable pub place_of : State → ℕ → ℕ
place_of (reads ph) at = at
place_of (ends r p) at = p

-- its events in the table, behind those of the log, and what that comes to
unfoldable pub settle : List ℕ → Log → Ran State → Final
settle t log o = finish (pour o.events t log) (result_of o.state) (place_of o.state o.at)

abbrev pub limit : ℕ
limit = 16777216

-- the answer of a session that starts so: 2 first
unfoldable pub answer : Phase → List ℕ → List ℕ → Final
answer start t s = cond (ltb limit (length s)) (final t TooLong 0 0) (settle t no_events (session (reads start) 0 s))

-- ---- the four entries

-- where each begins
abbrev pub start_of : Entry → Phase
start_of SmtpClient = Phases.hello
start_of SmtpServer = Phases.reply
start_of Pop3Server = Phases.status
start_of ImapClient = Phases.command

-- what each answers, on a table and a session
abbrev pub answer_of : Entry → List ℕ → List ℕ → Final
answer_of e = answer (start_of e)

abbrev pub smtp_client : List ℕ → List ℕ → Final
smtp_client = answer_of SmtpClient

abbrev pub smtp_server : List ℕ → List ℕ → Final
smtp_server = answer_of SmtpServer

abbrev pub pop3_server : List ℕ → List ℕ → Final
pop3_server = answer_of Pop3Server

abbrev pub imap_client : List ℕ → List ℕ → Final
imap_client = answer_of ImapClient
