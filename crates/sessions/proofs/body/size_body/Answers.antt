-- `sessions::body::size_body` meets its contract, by what is left of the literal. Assumes nothing.
use native.Mathlib.Omega.{arith}
use Prim.Native.Nat.{◌-◌}
use Rattle.rules.specs.Phases.{reads, closing, literal, wants}
use Rattle.sessions.proofs.MailTurns.{read_as, literal_none, literal_some, literal_all, literal_full}
use Rattle.sessions.proofs.Steps.{read_stop, add, add_stop, is_err}
use Rattle.sessions.proofs.body.size_body.Goals as goal

-- ---- the body's start finds no slot
pub returns-in_err-log : goal.returns-in_err-log
returns-in_err-log c = rw (is_err _ c.from_residual.ensures.1) (literal_full _ _ c.in_err-log.ensures)

-- ---- nothing is left of the literal
pub returns-in_err-log-2 : goal.returns-in_err-log-2
returns-in_err-log-2 c = rw (is_err _ c.from_residual-in_err-log-2.ensures.1)
    (literal_none _ c.args.size c.if-size-eq0.true c.in_ok-log.ensures (add_stop (reads closing) c.in_err-log-2.ensures))

pub returns-then-size-eq0 : goal.returns-then-size-eq0
returns-then-size-eq0 c = literal_none _ c.args.size c.if-size-eq0.true c.in_ok-log.ensures (add c.in_ok-log-2.ensures c.requires)

-- ---- something is left, and the buffer ends before
pub returns-in_err-end : goal.returns-in_err-end
unfolding wants
returns-in_err-end c = let a = c.args in
    rw (is_err _ c.from_residual-in_err-end.ensures.1)
    (literal_some _ a.size (omega arith) c.in_ok-log.ensures (read_stop (literal a.encoding (a.size - 1)) c.in_err-end.ensures))

-- ---- something is left, and it is there
pub returns-in_err-log-3 : goal.returns-in_err-log-3
unfolding wants
returns-in_err-log-3 c = let a = c.args in
    let body = c.in_ok-end.ensures in
    rw (is_err _ c.from_residual-in_err-log-3.ensures.1)
    (literal_some _ a.size (omega arith) c.in_ok-log.ensures
    (read_as (literal a.encoding (a.size - 1)) body (literal_all body _ _) (add_stop (reads closing) c.in_err-log-3.ensures)))

pub returns : goal.returns
unfolding wants
returns c = let a = c.args in
    let body = c.in_ok-end.ensures in
    literal_some _ a.size (omega arith) c.in_ok-log.ensures
    (read_as (literal a.encoding (a.size - 1)) body (literal_all body _ _) (add c.in_ok-log-3.ensures body.within))
