-- `fields::pop3::octets` meets its contract. The loop's invariant: without the zeros the digits are worth as much. Assumes nothing.
use Prim.Native.Nat.{◌-◌}
use lib.ListN.{length}
use Rattle.fields.proofs.Compared.{Dropped}
use Rattle.fields.proofs.pop3.octets.Given as goal

abbrev pub invariant-loop-zeros : goal.invariant-loop-zeros
invariant-loop-zeros l = Dropped l.digits l.zeros

abbrev pub decreases-loop-zeros : goal.decreases-loop-zeros
decreases-loop-zeros l = length l.digits - l.zeros
