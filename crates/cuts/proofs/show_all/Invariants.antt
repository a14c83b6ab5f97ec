-- `cuts::show_all` is safe, and the windows' lines lie in the buffer. Assumes nothing.
use mathlib.Core.Path.{◌≡◌}
use Prim.Native.Nat.{◌≤◌}
use lib.ListN.{length}
use Rattle.cuts.proofs.show_all.Given as goal

abbrev pub invariant-loop-i : goal.invariant-loop-i
invariant-loop-i l = (l.at ≤ l.to) × (l.to ≤ length l.bytes) × (l.text ≤ length l.out) × (length l.table ≡ length l.initial.table) × (length l.out ≡ length l.initial.out)
