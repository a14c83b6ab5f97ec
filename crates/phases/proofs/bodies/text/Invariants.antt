-- `phases::bodies::text` meets its contract. The loop's invariant: what is left at p is what was left. Assumes nothing.
use Prim.Native.Nat.{◌-◌}
use lib.ListN.{length}
use Rattle.rules.specs.Phases.{reads, text}
use Rattle.windows.specs.Stands.{fresh}
use Rattle.phases.proofs.Turning.{Looped}
use Rattle.phases.proofs.bodies.text.Given as goal

abbrev pub invariant-loop-e : goal.invariant-loop-e
invariant-loop-e l = Looped l.w.settings l.w.bytes.now l.w.base l.at l.initial.table l.initial.log (fresh (reads (text l.mail l.encoding))) l.p l.table l.log

abbrev pub decreases-loop-e : goal.decreases-loop-e
decreases-loop-e l = length l.w.bytes.now - l.p
