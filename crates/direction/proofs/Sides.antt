-- The answer by a protocol's number, and that nothing is read of a payload that is not held.
-- Assumes nothing.
use mathlib.Core.Path.{◌≡◌, refl}
use mathlib.Core.Bool.{Bool, true, false}
use mathlib.Core.List.{List}
use Prim.Native.Nat.{ℕ}
use denote.Bor.{Bor}
use Rattle.std.proofs.Common.{arith}
use Rattle.std.proofs.lemmas.Bool.Decides.{nat_tests}
use Rattle.std.specs.Bool.{then_some}
use Rattle.std.specs.Prelude.{Some, None}
use Rattle.direction.specs.Direction.{Side, side, seen, protocol_of, by_payload, confirm, guess}
use Rattle.direction.specs.declared.Guess.TheVariants.{OtherProtocol}
use Rattle.direction.specs.declared.Protocol.{Protocol}

module _ (n : ℕ) (c s : Side) where
  pub guess_named : (p : Protocol) → protocol_of n ≡ Some p → confirm p c s ≡ guess n c s
  unfolding protocol_of guess
  guess_named p e = grind (arith, nat_tests)

  pub guess_other : protocol_of n ≡ None → OtherProtocol ≡ guess n c s
  unfolding protocol_of guess
  guess_other e = grind (arith, nat_tests)

pub unread : (p : Protocol) (m n : ℕ) (h g : Bool) (k l : Bor (List ℕ))
    → confirm p (seen (record { port = m; payload = then_some h k })) (seen (record { port = n; payload = then_some g l }))
    ≡ confirm p (side m h k.now) (side n g l.now)
unfolding confirm by_payload
unread p m n true true k l = refl
unread p m n true false k l = refl
unread p m n false true k l = refl
unread p m n false false k l = refl
