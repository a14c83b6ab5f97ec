-- A right answer beside two wrong ones, all as numbers: what each crate's Wrong.antt is made of.
-- Assumes nothing.
use mathlib.Core.Bool.{Bool, ◌||◌}
use mathlib.Core.List.{List}
use Prim.Native.Nat.{ℕ}
use Rattle.reading.specs.Bytes.{same}

pub record Row : Type 0 where
  pub right : List ℕ
  pub one : List ℕ
  pub other : List ℕ

abbrev pub ◌is-neither◌nor◌ : List ℕ → List ℕ → List ℕ → Row
r is-neither a nor b = record { right = r; one = a; other = b }

infix 1 ◌is-neither◌nor◌
-- one of the wrong answers is right after all
abbrev pub met : Row → Bool
met r = same r.right r.one || same r.right r.other
