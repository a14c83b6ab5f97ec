-- The octets of one character, read up to the i-th behind the first.
-- Assumes nothing.
use mathlib.Core.Path.{◌≡◌, refl, sym, ◌∙◌}
use mathlib.Core.Bool.{Bool, true, false, cond}
use mathlib.Core.List.{List, [], ◌∷◌}
use Prim.Native.Nat.{ℕ, zero, suc, ◌+◌, ◌*◌, ◌-◌, ◌^◌, ◌≤◌, ◌<◌}
use native.Mathlib.Numerals.{unary_clauses}
use native.Mathlib.Omega.{arith}
use lib.ListN.{length, drop, get_or}
use borrow.Author.Tests.{leb-true}
use Rattle.reading.proofs.Words.{left_at, both_true}
use Rattle.utf8.specs.Utf8.{is_tail, lawful, sequence}
use Rattle.std.specs.Prelude.{Option, None}

-- a tail's six bits
pub record Bits (b : ℕ) : Type 0 where
  pub least : 0x80 ≤ b
  pub most : b ≤ 0xbf

pub tail_bits : (b : ℕ) → is_tail b ≡ true → Bits b
unfolding is_tail
tail_bits b t =
    let both = both_true _ _ t in
    record { least = leb-true 0x80 b both.0; most = leb-true b 0xbf both.1 }

pub record Joined (n tails bits : ℕ) (l : List ℕ) (i c : ℕ) : Type 0 where
  pub within : i ≤ tails
  pub small : c < 32 * 64 ^ i
  pub is : sequence n (tails - i) c (drop i l) ≡ sequence n tails bits l

module _ {n tails bits : ℕ} {l : List ℕ} {i c : ℕ} (j : Joined n tails bits l i c) where
  pub joined_on : i < tails → i < length l → is_tail (get_or l i 0) ≡ true → Joined n tails bits l (i + 1) (c * 64 + (get_or l i 0 - 0x80))
  unfolding sequence
  joined_on h g t =
      let m : tails - i ≡ suc (tails - (i + 1)) = omega arith in
      let e : sequence n (tails - i) c (drop i l) ≡ sequence n (tails - (i + 1)) (c * 64 + (get_or l i 0 - 0x80)) (drop (i + 1) l) = rw (m, left_at l i g, t) in
      let p : 64 ^ (i + 1) ≡ 64 ^ i * 64 = simp unary_clauses refl in
      record { within = omega arith; small = omega (arith, j.small, p, (tail_bits _ t).most); is = sym e ∙ j.is }

  pub joined_broken : i < tails → i < length l → is_tail (get_or l i 0) ≡ false → None ≡ sequence n tails bits l
  unfolding sequence
  joined_broken h g t =
      let m : tails - i ≡ suc (tails - (i + 1)) = omega arith in
      let e : sequence n (tails - i) c (drop i l) ≡ None = rw (m, left_at l i g, t) in
      sym e ∙ j.is

  pub joined_all : tails ≤ i → lawful n c ≡ sequence n tails bits l
  unfolding sequence
  joined_all h =
      let m : tails - i ≡ 0 = omega arith in
      let e : sequence n (tails - i) c (drop i l) ≡ lawful n c = rw m in
      sym e ∙ j.is

-- where fewer bytes are left than tails are due
pub sequence_short : (n k c : ℕ) (l : List ℕ) → length l < k → None ≡ sequence n k c l
unfolding sequence
sequence_short n zero c l h = absurd (omega arith)
sequence_short n (suc k) c [] h = refl
sequence_short n (suc k) c (b ∷ l) h = short_if (is_tail b) (sequence n k (c * 64 + (b - 0x80)) l) (sequence_short n k (c * 64 + (b - 0x80)) l (omega arith))
  where
    short_if : (t : Bool) (o : Option ℕ) → None ≡ o → None ≡ cond t o None
    short_if true o e = e
    short_if false o e = refl
