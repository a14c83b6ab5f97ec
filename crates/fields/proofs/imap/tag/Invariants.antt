-- `fields::imap::tag` meets its contract. The loop's invariant: no byte up to i is white or above 127. Assumes nothing.
use Prim.Native.Nat.{◌-◌}
use lib.ListN.{length}
use Rattle.fields.proofs.Texts.{Tagged}
use Rattle.fields.proofs.imap.tag.Given as goal

abbrev pub invariant-loop-i : goal.invariant-loop-i
invariant-loop-i l = Tagged l.l l.i

abbrev pub decreases-loop-i : goal.decreases-loop-i
decreases-loop-i l = length l.l - l.i
