-- A run at a list's start, counted up to i.
-- Assumes nothing.
use mathlib.Core.Path.{◌≡◌, sym, ap, ◌∙◌}
use mathlib.Core.Bool.{Bool, true, false, cond}
use mathlib.Core.List.{List, [], ◌∷◌}
use Prim.Native.Nat.{ℕ, ◌+◌, ◌-◌, ◌≤◌, ◌<◌}
use native.Mathlib.Omega.{arith}
use lib.ListN.{length, take, drop, get_or, drop_of_length-le, length-drop}
use lib.Seq.{drop-drop}
use Rattle.reading.proofs.Words.{left_at, rest_is}
use Rattle.fields.specs.Runs.{lead}

-- a run never goes past the end
lead_if : (t : Bool) (n m : ℕ) → n ≤ m → cond t (1 + n) 0 ≤ 1 + m
lead_if true n m h = omega arith
lead_if false n m h = omega arith

pub lead_within : (r : ℕ → Bool) (l : List ℕ) → lead r l ≤ length l
unfolding lead
lead_within r [] = omega arith
lead_within r (b ∷ l) = omega (arith, lead_if (r b) (lead r l) (length l) (lead_within r l))

pub record Led (r : ℕ → Bool) (l : List ℕ) (i : ℕ) : Type 0 where
  pub within : i ≤ length l
  pub is : i + lead r (drop i l) ≡ lead r l

pub led_none_yet : (r : ℕ → Bool) (l : List ℕ) → Led r l 0
led_none_yet r l = record { within = omega arith; is = omega arith }

module _ {r : ℕ → Bool} {l : List ℕ} {i : ℕ} (h : Led r l i) where
  pub led_on : i < length l → r (get_or l i 0) ≡ true → Led r l (i + 1)
  unfolding lead
  led_on g t =
      let e : lead r (drop i l) ≡ 1 + lead r (drop (i + 1) l) = rw (left_at l i g, t) in
      record { within = omega arith; is = omega (arith, h.is) }

  pub led_stop : i < length l → r (get_or l i 0) ≡ false → i ≡ lead r l
  unfolding lead
  led_stop g t =
      let e : lead r (drop i l) ≡ 0 = rw (left_at l i g, t) in
      omega (arith, h.is)

  pub led_all : length l ≤ i → i ≡ lead r l
  unfolding lead
  led_all g =
      let e : lead r (drop i l) ≡ 0 = rw (drop_of_length-le l g) in
      omega (arith, h.is)

-- ---- a run of the rest behind o, n bytes long
module _ (r : ℕ → Bool) (l : List ℕ) (o n : ℕ) (h : n ≡ lead r (take (length l - o) (drop o l))) where
  run_of_rest : n ≡ lead r (drop o l)
  run_of_rest = rw rest_is at h

  pub run_room : o ≤ length l → o + n ≤ length l
  run_room g = omega (arith, run_of_rest, lead_within r (drop o l), length-drop o l)

  -- what is behind it
  pub run_rest : take (length l - (o + n)) (drop (o + n) l) ≡ drop (lead r (drop o l)) (drop o l)
  run_rest = rest_is l (o + n) ∙ sym (drop-drop n o l) ∙ ap (λ (k : ℕ). drop k (drop o l)) run_of_rest
