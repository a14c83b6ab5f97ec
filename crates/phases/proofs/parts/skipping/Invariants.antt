-- `phases::parts::skipping` meets its contract. The loop's invariant: what is left at p is what was left at first; no line ended the skipping. Assumes nothing.
use Prim.Native.Nat.{◌-◌, ℕ}
use lib.ListN.{length}
use mathlib.Core.List.{List}
use Rattle.phases.specs.Phasing.{state_of}
use Rattle.phases.specs.declared.Phase.TheVariants as is
use Rattle.phases.proofs.Turning.{Looped}
use Rattle.phases.proofs.parts.skipping.Given as goal

abbrev pub invariant-loop-e : goal.invariant-loop-e
invariant-loop-e l = (t : List ℕ) → Looped l.w.settings l.w.bytes.now l.w.base l.at t l.log (state_of l.kept (is.Skipping l.mail l.level)) l.p t l.log

abbrev pub decreases-loop-e : goal.decreases-loop-e
decreases-loop-e l = length l.w.bytes.now - l.p
