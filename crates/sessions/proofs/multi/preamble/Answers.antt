-- `sessions::multi::preamble` meets its contract, by what stands behind the first delimiter. Assumes nothing.
use Rattle.fields.specs.Common.{bytes_of}
use Rattle.rules.specs.Phases.{opened, preamble, wants}
use Rattle.sessions.proofs.MailTurns.{not_crlf, preamble_on, opened_crlf, opened_other}
use Rattle.sessions.proofs.Steps.{read_stop, walked, is_err}
use Rattle.sessions.proofs.multi.preamble.Goals as goal

-- ---- there is no delimiter
pub returns-in_err-end : goal.returns-in_err-end
unfolding wants
returns-in_err-end c = let a = c.args in
    λ m os t. rw (is_err _ c.from_residual.ensures.1) (read_stop (preamble m (bytes_of a.s.bytes.now a.b) os) c.in_err-end.ensures)

-- ---- the two bytes behind it: they are not there
pub returns-in_err-two_bytes : goal.returns-in_err-two_bytes
unfolding wants
returns-in_err-two_bytes c = λ m os t. rw (is_err _ c.from_residual-in_err-two_bytes.ensures.1)
    (walked (preamble_on m _ os c.in_ok-end.ensures) (read_stop (opened m _ os) c.in_err-two_bytes.ensures))

-- CRLF: a part follows
pub returns-in-Crlf : goal.returns-in-Crlf
returns-in-Crlf c = let pair = rw c.in-Crlf.is at c.in_ok-two_bytes.ensures in
    λ m os t. walked (preamble_on m _ os c.in_ok-end.ensures) (opened_crlf m _ os pair)

-- other bytes: refusal 6
pub returns-in-Hyphens : goal.returns-in-Hyphens
returns-in-Hyphens c = λ m os t. walked (preamble_on m _ os c.in_ok-end.ensures)
    (opened_other m _ os (not_crlf c.args.from.log _ c.in_ok-two_bytes.ensures c.in-Hyphens.is) c.stop.ensures)
