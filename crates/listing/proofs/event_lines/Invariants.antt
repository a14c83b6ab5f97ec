-- `listing::event_lines` meets its contract. The loop's invariant: the lines of i events are put. Assumes nothing.
use Prim.Native.Nat.{◌-◌}
use Rattle.listing.proofs.Lines.{Lined}
use Rattle.listing.proofs.event_lines.Given as goal

abbrev pub invariant-loop-i : goal.invariant-loop-i
invariant-loop-i l = Lined l.initial.out l.at l.table l.n l.i l.end l.out

abbrev pub decreases-loop-i : goal.decreases-loop-i
decreases-loop-i l = l.n - l.i
