use mathlib.Core.Path.{refl, sym, ap}
use Prim.Native.Nat.{ℕ}
use lib.Dec.{leb}
use Rattle.classes.specs.Classes.{is_digit}
use Rattle.reading.proofs.Words.{rest_is, left_at}
use Rattle.fields.specs.Pop3.{octets}
use Rattle.fields.specs.Runs.{lead}
use Rattle.fields.proofs.Compared.{dropped_none_yet, dropped_on, dropped_all}
use native.Mathlib.Omega.{arith}
use Rattle.fields.proofs.pop3.octets.Goals as goal

-- ---- a digit that is no zero: from it on it is a number without zeros in front, and the other has digits only
pub at_most-requires : goal.at_most-requires
unfolding lead is_digit
at_most-requires c = let digits = c.args.digits.now in
    let zeros = c.loop-zeros.zeros in
    (rw (rest_is digits zeros, left_at digits zeros c.loop-zeros-test.true) (omega arith), refl)

-- ---- a zero
pub loop-zeros-preserved : goal.loop-zeros-preserved
loop-zeros-preserved c = dropped_on c.loop-zeros.invariant c.loop-zeros-test.true (omega arith)

-- ---- nothing but zeros
pub returns : goal.returns
unfolding octets
returns c = sym (ap (λ (n : ℕ). leb n 4294967295) (dropped_all c.loop-zeros.invariant c.loop-zeros-test.false))

pub loop-zeros-init : goal.loop-zeros-init
loop-zeros-init c = dropped_none_yet _
