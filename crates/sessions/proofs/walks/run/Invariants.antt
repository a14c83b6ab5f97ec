-- `sessions::walks::run` meets its contract. The loop's invariant: what is left here is what was left. Assumes nothing.
use Prim.Native.Nat.{◌-◌}
use lib.ListN.{length}
use Rattle.events.specs.Table.{no_events}
use Rattle.sessions.proofs.Steps.{Looped}
use Rattle.sessions.proofs.walks.run.Given as goal

abbrev pub invariant-loop-to : goal.invariant-loop-to
invariant-loop-to g l = Looped l.s.bytes.now l.initial.table no_events 0 g.ph l.here l.table

abbrev pub decreases-loop-to : goal.decreases-loop-to
decreases-loop-to g l = length l.s.bytes.now - l.here.at
