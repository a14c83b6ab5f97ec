-- `maillist::list` meets its contract, by the session's length. Assumes nothing.
use Prim.Native.Nat.{◌≤◌}
use native.Mathlib.Omega.{arith}
use Rattle.rules.proofs.Kept.{written}
use Rattle.maillist.proofs.Laws.{few_events, long_printed, session_printed}
use Rattle.maillist.proofs.list.Goals.{After-dissect-a}
use Rattle.maillist.proofs.list.Goals as goal

-- a session that is too long
pub returns-then-s-gt-LONGEST : goal.returns-then-s-gt-LONGEST
returns-then-s-gt-LONGEST c = long_printed _ _ c.if-s-gt-LONGEST.true c.requires c.put.ensures

-- ---- one that is not

-- so there are not more events than bytes
few : (c : After-dissect-a) → c.dissect-a.result.count ≤ 3072
few c =
    let dissect = c.dissect-a in
    let short = c.if-s-gt-LONGEST.false in
    let s = c.args.s.now in
    few_events 12288 c.zeros-numbers.ensures s dissect.new.table dissect.result.count short (omega (arith, short))
    (written _ _ _ _ _ dissect.ensures) dissect.auto.table

pub append-requires : goal.append-requires
append-requires c =
    (omega (arith, c.requires, few (goal.at.append-requires c).After-dissect-a), written _ _ _ _ _ c.dissect-a.ensures)

pub returns : goal.returns
returns c = let short = c.if-s-gt-LONGEST.false in
    let room = c.requires in
    session_printed 12288 c.zeros-numbers.ensures _ _ short (omega (arith, short)) _ room c.dissect-a.ensures (few (goal.at.returns c).After-dissect-a) c.append.ensures
