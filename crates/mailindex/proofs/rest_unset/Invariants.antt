-- `mailindex::rest_unset` meets its contract. The loop's invariant: the choices from number i on are not made. Assumes nothing.
use mathlib.Core.Path.{◌≡◌}
use Prim.Native.Nat.{◌-◌, ◌≤◌}
use Rattle.mailindex.specs.Exports.{unset}
use Rattle.mailindex.proofs.rest_unset.Given as goal

abbrev pub invariant-loop-i : goal.invariant-loop-i
invariant-loop-i l = (2 ≤ l.i) × (unset l.choices 7 ≡ unset l.choices (l.i - 1))
