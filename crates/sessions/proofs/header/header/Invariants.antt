-- `sessions::header::header` meets its contract. The loop's invariant: what is left here, with what is known, is what was left. Assumes nothing.
use Prim.Native.Nat.{◌-◌}
use lib.ListN.{length}
use Rattle.sessions.proofs.HeadTurns.{HeadAt}
use Rattle.sessions.proofs.header.header.Given as goal

abbrev pub invariant-loop-end : goal.invariant-loop-end
invariant-loop-end l = HeadAt l.s.bytes.now l.initial.table l.initial.here.log l.initial.here.at l.known l.here l.table

abbrev pub decreases-loop-end : goal.decreases-loop-end
decreases-loop-end l = length l.s.bytes.now - l.here.at
