-- `sessions::multi::mime_body` meets its contract: the body's start, then all up to the delimiter. Assumes nothing.
use mathlib.Core.List.{[]}
use native.Mathlib.Omega.{arith}
use Rattle.fields.specs.Common.{bytes_of}
use Rattle.rules.specs.Phases.{reads, content, between, wants}
use Rattle.sessions.proofs.MailTurns.{read_as, content_all}
use Rattle.sessions.proofs.Readings.{bytes_long}
use Rattle.sessions.proofs.Steps.{read_stop, note_stop, note, add, add_stop, is_err}
use Rattle.sessions.proofs.multi.mime_body.Goals as goal

-- ---- the body's start finds no slot
pub returns-in_err-log : goal.returns-in_err-log
returns-in_err-log c = λ m os. rw (is_err _ c.from_residual.ensures.1) (note_stop [] (reads (content m _ _ os)) c.in_err-log.ensures)

-- ---- there is no delimiter
pub returns-in_err-end : goal.returns-in_err-end
unfolding wants
returns-in_err-end c = let a = c.args in
    λ m os. rw (is_err _ c.from_residual-in_err-end.ensures.1)
    (note [] (reads (content m _ _ os)) c.in_ok-log.ensures (read_stop (content m _ (bytes_of a.s.bytes.now a.b) os) c.in_err-end.ensures))

-- ---- there is one: the content ends before it
pub returns-in_err-log-2 : goal.returns-in_err-log-2
unfolding wants
returns-in_err-log-2 c = let s = c.args.s.bytes.now in
    let b = c.args.b in
    let end = c.in_ok-end.ensures in
    λ m os. rw (is_err _ c.from_residual-in_err-log-2.ensures.1)
    (note [] (reads (content m _ _ os)) c.in_ok-log.ensures
    (read_as (content m _ (bytes_of s b) os) end (content_all end m _ _ os _ (omega (arith, c.saturating_sub-size.ensures, bytes_long s b c.requires.1)))
    (add_stop (reads (between m _ os)) c.in_err-log-2.ensures)))

pub returns : goal.returns
unfolding wants
returns c = let s = c.args.s.bytes.now in
    let b = c.args.b in
    let end = c.in_ok-end.ensures in
    λ m os. note [] (reads (content m _ _ os)) c.in_ok-log.ensures
    (read_as (content m _ (bytes_of s b) os) end (content_all end m _ _ os _ (omega (arith, c.saturating_sub-size.ensures, bytes_long s b c.requires.1)))
    (add {to = λ q. reads (between m _ os)} c.in_ok-log-2.ensures end.within))
