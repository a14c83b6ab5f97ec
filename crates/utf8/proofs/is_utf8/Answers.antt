use mathlib.Core.Path.{refl, sym, ap, ◌∙◌}
use Prim.Native.Nat.{ℕ}
use lib.Dec.{eqb}
use lib.ListN.{length}
use native.Mathlib.Omega.{arith}
use Rattle.utf8.specs.Utf8.{is_utf8, size}
use Rattle.utf8.proofs.Characters.{octets_some}
use Rattle.utf8.proofs.Walks.{walked_on, walked_out, size_on}
use Rattle.utf8.proofs.is_utf8.Goals as goal

-- a character
pub loop-c-preserved : goal.loop-c-preserved
loop-c-preserved c = walked_on c.loop-c.invariant _ _ c.octets_of-at.ensures (sym c.character.ensures ∙ c.in-Some.is) (size_on _)

pub overflow_add-at : goal.overflow_add-at
overflow_add-at c = omega (arith, (loop-c-preserved c).within)

pub loop-c-smaller : goal.loop-c-smaller
loop-c-smaller c = omega (arith, c.octets_of-at.ensures, octets_some c.in-Some.c, (loop-c-preserved c).within)

-- none is left
pub returns : goal.returns
unfolding is_utf8 size
returns c = ap (λ (n : ℕ). eqb n (length c.args.l.now)) (walked_out c.loop-c.invariant refl (sym c.character.ensures ∙ c.in_default.is))
