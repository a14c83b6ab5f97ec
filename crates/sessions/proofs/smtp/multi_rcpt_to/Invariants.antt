-- `sessions::smtp::multi_rcpt_to` meets its contract. The loop's invariant: what is left here is what was left. Assumes nothing.
use Prim.Native.Nat.{◌-◌}
use lib.ListN.{length}
use Rattle.rules.specs.Phases.{recipient}
use Rattle.sessions.proofs.Steps.{Looped}
use Rattle.sessions.proofs.smtp.multi_rcpt_to.Given as goal

abbrev pub invariant-loop-l : goal.invariant-loop-l
invariant-loop-l l = Looped l.s.bytes.now l.initial.table l.initial.here.log l.initial.here.at recipient l.here l.table

abbrev pub decreases-loop-l : goal.decreases-loop-l
decreases-loop-l l = length l.s.bytes.now - l.here.at
