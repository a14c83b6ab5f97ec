use Rattle.std.proofs.Common.{List, [], ℕ, ◌≤◌, arith}
use Rattle.std.specs.Prelude.{Ok, Err}
use Rattle.fields.specs.Common.{bytes_of}
use Rattle.sessions.proofs.MailTurns.{begun_on}
use Rattle.sessions.proofs.Parting.{outermost_none, inner, as_closed, none_so_far, part_plain, part_ninth, part_deeper}
use Rattle.sessions.proofs.Steps.{further, walked, is_err}
use Rattle.sessions.proofs.multi.+multi_body_part.Goals as goal

-- ---- multi_body

-- the invariant holds behind the preamble
pub multi_body-loop-to-init : goal.multi_body-loop-to-init
multi_body-loop-to-init t c = none_so_far (c.in_ok-here.ensures c.args.level.mail [] c.args.table.now).moved.1

-- the call of `part`: the same levels, and its measure is one less
pub multi_body-part-requires : goal.multi_body-part-requires
multi_body-part-requires t c =
    let pre = c.requires in
    let on : c.args.from.at ≤ c.loop-to.here.at = omega (arith, c.loop-to.invariant.on, (c.in_ok-here.ensures c.args.level.mail [] c.args.table.now).moved.0) in
    (omega arith, record { within = c.loop-to.invariant.within; begins = begun_on pre.begins on; bdry = pre.bdry; outer = pre.outer })

-- the call of `epilogue`, behind a part that says `Closed`
pub multi_body-epilogue-requires : goal.multi_body-epilogue-requires
multi_body-epilogue-requires t c =
    let pre = c.requires in
    let on : c.args.from.at ≤ c.loop-to.here.at = omega (arith, c.loop-to.invariant.on, (c.in_ok-here.ensures c.args.level.mail [] c.args.table.now).moved.0) in
    let closed = rw c.in-Closed.is at c.in_ok-to.ensures in
    (closed.moved.1, begun_on pre.begins (omega (arith, on, closed.moved.0)), pre.outer)

-- a way out: the closing delimiter, and the epilogue behind it
pub multi_body-returns-in-Closed : goal.multi_body-returns-in-Closed
multi_body-returns-in-Closed t c =
    let a = c.args in
    let opened = λ (os : List (List ℕ)). c.in_ok-here.ensures a.level.mail os a.table.now in
    let on : a.from.at ≤ c.loop-to.here.at = omega (arith, c.loop-to.invariant.on, (opened []).moved.0) in
    let closed = rw c.in-Closed.is at c.in_ok-to.ensures in
    inner
    (further a.s.bytes.now a.from.at c.in-Closed.to.at c.epilogue.result (omega (arith, on, closed.moved.0)) (c.epilogue.ensures _ [] (outermost_none _) c.part.new.table).moved)
    (λ os f. walked (walked (opened os) (c.loop-to.invariant.walks os f))
    (walked (as_closed os f closed) (c.epilogue.ensures (bytes_of a.s.bytes.now a.level.bdry) os f.outermost c.part.new.table)))

-- ---- part

-- a way out: the ninth level
pub part-returns-then-level-eq0 : goal.part-returns-then-level-eq0
part-returns-then-level-eq0 t c = part_ninth c.args.s.bytes.now c.in_ok-known.ensures c.args.level c.in-Some.is c.if-level-eq0.true c.stop.ensures

-- a way out: no boundary, and a plain content
pub part-returns-in-None : goal.part-returns-in-None
part-returns-in-None t c = let l = c.args.level in
    part_plain c.args.s.bytes.now c.in_ok-known.ensures l.mail (bytes_of c.args.s.bytes.now l.bdry) c.in-None.is (c.content.ensures l.mail)

-- two ways out: an inner multipart, which stopped
pub part-returns-in_err-next-in-Some : goal.part-returns-in_err-next-in-Some
part-returns-in_err-next-in-Some t c = rw (is_err _ c.from_residual-in_err-next-in-Some.ensures.1)
    (part_deeper c.args.s.bytes.now c.in_ok-known.ensures c.args.level c.in-Some.is (Err _) c.if-level-eq0.false c.in_err-next-in-Some.ensures)

-- .. or went
pub part-returns-in_ok-next-in-Some : goal.part-returns-in_ok-next-in-Some
part-returns-in_ok-next-in-Some t c = part_deeper c.args.s.bytes.now c.in_ok-known.ensures c.args.level c.in-Some.is (Ok _) c.if-level-eq0.false c.in_ok-next-in-Some.ensures
