-- `phases::lines::list` meets its contract. The loop's invariant: what is left at p is what was left, whichever state of document 01 the phase stands for. Assumes nothing.
use Prim.Native.Nat.{ℕ, ◌-◌, ◌≤◌}
use lib.ListN.{length}
use Rattle.events.specs.Events.{kind_number}
use Rattle.rules.specs.Phases as phase
use Rattle.rules.specs.Phases.{reads}
use Rattle.windows.specs.Stands.{fresh}
use Rattle.phases.specs.Phasing.{Lists, Said}
use Rattle.phases.proofs.Turning.{Looped}
use Rattle.phases.proofs.lines.list.Given as goal

abbrev pub invariant-loop-behind : goal.invariant-loop-behind
invariant-loop-behind g l = (l.p ≤ length l.w.bytes.now)
    × ((so : phase.Phase) → Lists l.phase (kind_number l.kind) so → ((x : _) (to : ℕ) (r : _) → goal.F-post g l.behind x to r → Said (kind_number l.kind) so x.now to r)
    → Looped l.w.settings l.w.bytes.now l.w.base l.at l.initial.table l.initial.log (fresh (reads so)) l.p l.table l.log)

abbrev pub decreases-loop-behind : goal.decreases-loop-behind
decreases-loop-behind g l = length l.w.bytes.now - l.p
