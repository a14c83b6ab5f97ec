-- Numbers in digits, compared without being worked out: zeros in front are worth nothing, a longer number without them is larger, and two that end at the same
-- place are compared digit by digit. One of the two is any that is written in digits; of the other any bytes are, each for what it is worth.
-- Assumes nothing.
use mathlib.Core.Path.{◌≡◌, refl, sym, ap, ◌∙◌}
use mathlib.Core.Bool.{true, false, cond, ◌&&◌}
use mathlib.Core.List.{List, [], ◌∷◌, ◌++◌}
use Prim.Native.Nat.{ℕ, zero, suc, ◌+◌, ◌*◌, ◌-◌, ◌≤◌, ◌<◌}
use native.Mathlib.Omega.{arith}
use lib.Dec.{leb, ltb}
use lib.ListN.{length, take, drop, get_or, take-append-drop, drop_of_length-le, length-drop}
use lib.Seq.{take-suc, take_all, get_or-drop}
use borrow.Author.Tests.{le-leb, lt-leb, leb-true, ltb-true, ltb-false}
use Rattle.classes.specs.Classes.{is_digit}
use Rattle.reading.proofs.Places.{by_test}
use Rattle.reading.proofs.Words.{left_at, both_true}
use Rattle.fields.specs.Runs.{lead, worth_behind, worth, from_last}
use Rattle.fields.proofs.Led.{lead_within}
use Rattle.fields.proofs.Worth.{worth_grows}

-- ---- zeros in front: without the first i bytes it is worth as much
pub record Dropped (l : List ℕ) (i : ℕ) : Type 0 where
  pub within : i ≤ length l
  pub is : worth (drop i l) ≡ worth l

pub dropped_none_yet : (l : List ℕ) → Dropped l 0
dropped_none_yet l = record { within = omega arith; is = refl }

module _ {l : List ℕ} {i : ℕ} (z : Dropped l i) where
  pub dropped_on : i < length l → get_or l i 0 ≤ 48 → Dropped l (i + 1)
  unfolding worth worth_behind
  dropped_on h g =
      let turn : worth (drop i l) ≡ worth_behind (0 * 10 + (get_or l i 0 - 48)) (drop (i + 1) l) = rw (left_at l i h) in
      let none : 0 * 10 + (get_or l i 0 - 48) ≡ 0 = omega arith in
      record { within = omega arith; is = sym (rw none at turn) ∙ z.is }

  pub dropped_all : length l ≤ i → worth l ≡ 0
  unfolding worth worth_behind
  dropped_all h = sym z.is ∙ rw (drop_of_length-le l h)

-- ---- no byte of l is worth more than nine times c: of digits c is 1, of any bytes 23
abbrev pub Low : ℕ → List ℕ → Type 0
Low c l = (i : ℕ) → get_or l i 0 ≤ 48 + 9 * c

digits_on : (b n m : ℕ) → n ≤ m → cond (is_digit b) (1 + n) 0 ≡ suc m → (b ≤ 57) × (n ≡ m)
unfolding is_digit
digits_on b n m h e =
    by_test (leb 48 b && leb b 57)
    (λ t. let e' : 1 + n ≡ suc m = rw t at e in (leb-true b 57 (both_true (leb 48 b) (leb b 57) t).1, omega arith))
    (λ f. let e' : 0 ≡ suc m = rw f at e in absurd (omega arith))

digits_low : (l : List ℕ) → lead is_digit l ≡ length l → Low 1 l
unfolding lead
digits_low [] e i = omega arith
digits_low (b ∷ l) e zero = (digits_on b (lead is_digit l) (length l) (lead_within is_digit l) e).0
digits_low (b ∷ l) e (suc i) = digits_low l (digits_on b (lead is_digit l) (length l) (lead_within is_digit l) e).1 i

-- the law: what is ahead by c stays so, if it has no fewer digits to come
stays_ahead : (c : ℕ) (l m : List ℕ) (x y : ℕ) → Low c l → length l ≤ length m → x + c ≤ y → worth_behind x l + c ≤ worth_behind y m
unfolding worth_behind
stays_ahead c [] m x y low g h = omega (arith, worth_grows y m)
stays_ahead c (b ∷ l) [] x y low g h = absurd (omega arith)
stays_ahead c (b ∷ l) (d ∷ m) x y low g h =
    let still : x * 10 + (b - 48) + c ≤ y * 10 + (d - 48) = omega (arith, low 0) in
    stays_ahead c l m (x * 10 + (b - 48)) (y * 10 + (d - 48)) (λ i. low (suc i)) (omega arith) still

-- a longer number without zeros in front is larger
pub longer : (n m : List ℕ) → 48 < get_or n 0 0 → lead is_digit m ≡ length m → length m < length n → leb (worth n) (worth m) ≡ false
unfolding worth worth_behind
longer [] m h e g = absurd (omega arith)
longer (d ∷ n) m h e g =
    let first : 0 + 1 ≤ 0 * 10 + (d - 48) = omega arith in
    lt-leb (worth (d ∷ n)) (worth m) (omega (arith, stays_ahead 1 m n 0 (0 * 10 + (d - 48)) (digits_low m e) (omega arith) first))

-- ---- digit by digit: the last k are still to come

abbrev but_last : ℕ → List ℕ → List ℕ
but_last k l = take (length l - k) l

abbrev last_ones : ℕ → List ℕ → List ℕ
last_ones k l = drop (length l - k) l

worth_append : (n : ℕ) (l m : List ℕ) → worth_behind n (l ++ m) ≡ worth_behind (worth_behind n l) m
unfolding worth_behind
worth_append n [] m = refl
worth_append n (b ∷ l) m = worth_append (n * 10 + (b - 48)) l m

worth_split : (k : ℕ) (l : List ℕ) → worth_behind (worth (but_last k l)) (last_ones k l) ≡ worth l
unfolding worth
worth_split k l = sym (worth_append 0 (but_last k l) (last_ones k l)) ∙ ap worth (take-append-drop (length l - k) l)

-- no digit yet
worth_none : (k : ℕ) (l : List ℕ) → length l ≤ k → worth (but_last k l) ≡ 0
unfolding worth worth_behind
worth_none k l h = let none : length l - k ≡ 0 = omega arith in rw none

-- one more
worth_on : (k : ℕ) (l : List ℕ) → worth (but_last k l) ≡ worth (but_last (k + 1) l) * 10 + from_last k l
unfolding worth worth_behind from_last
worth_on k l =
    by_test (ltb k (length l))
    (λ t.
    let h : k < length l = omega (arith, ltb-true k (length l) t) in
    let at : length l - k ≡ suc (length l - (k + 1)) = omega arith in
    let inside : length l - (k + 1) < length l = omega arith in
    rw (t, at, take-suc l (length l - (k + 1)) 0 inside) (worth_append 0 (but_last (k + 1) l) (get_or l (length l - (k + 1)) 0 ∷ [])))
    (λ f.
    let h : length l ≤ k = ltb-false k (length l) f in
    let h' : length l ≤ k + 1 = omega arith in
    rw (f, worth_none k l h, worth_none (k + 1) l h'))

-- all: what is ahead by c in front of the last k is so behind them
behind_last : (c k : ℕ) (l m : List ℕ) → Low c l → k ≤ length m → worth (but_last k l) + c ≤ worth (but_last k m) → worth l + c ≤ worth m
behind_last c k l m low g h =
    let fewer : length (last_ones k l) ≤ length (last_ones k m) = omega (arith, length-drop (length l - k) l, length-drop (length m - k) m) in
    let low' : Low c (last_ones k l) = λ i. rw get_or-drop (low (length l - k + i)) in
    let end = stays_ahead c (last_ones k l) (last_ones k m) (worth (but_last k l)) (worth (but_last k m)) low' fewer h in
    omega (arith, end, worth_split k l, worth_split k m)

pub from_last_low : (k : ℕ) (l : List ℕ) → lead is_digit l ≡ length l → from_last k l ≤ 9
unfolding from_last
from_last_low k l e = by_test (ltb k (length l)) (λ t. rw t (omega (arith, digits_low l e (length l - (k + 1))))) (λ f. rw f (omega arith))

-- a digit that is worth something is there
from_last_there : (k : ℕ) (l : List ℕ) → 0 < from_last k l → k < length l
unfolding from_last
from_last_there k l h =
    by_test (ltb k (length l))
    (λ t. ltb-true k (length l) t)
    (λ f. let none : 0 < 0 = rw f at h in absurd (omega arith))

-- so far m is ahead of n by a
pub record Ahead (n m : List ℕ) (k a : ℕ) : Type 0 where
  pub near : a < 23
  pub within : k ≤ length m
  pub is : worth (but_last k m) ≡ worth (but_last k n) + a

pub ahead_none_yet : (n m : List ℕ) → length n ≤ length m → Ahead n m (length m) 0
ahead_none_yet n m fewer =
    let none : length m ≤ length m = omega arith in
    record { near = omega arith; within = none; is = omega (arith, worth_none (length m) m none, worth_none (length m) n fewer) }

-- ---- a turn: with its lead and its next digit m has h, and the next digit of n is d
module _ {n m : List ℕ} {k a : ℕ} (s : Ahead n m k a) (some : 0 < k) {h d : ℕ} (e : h ≡ a * 10 + from_last (k - 1) m) (e' : d ≡ from_last (k - 1) n) where
  turn : worth (but_last (k - 1) m) + d ≡ worth (but_last (k - 1) n) + h
  turn =
      let at : k - 1 + 1 ≡ k = omega arith in
      omega (arith, s.is, rw at at (worth_on (k - 1) n), rw at at (worth_on (k - 1) m))

  pub ahead_on : d ≤ h → h - d < 23 → Ahead n m (k - 1) (h - d)
  ahead_on g f = record { near = f; within = omega (arith, s.within); is = omega (arith, turn) }

  -- bytes do not make up for so much
  pub far_ahead : Low 23 n → d ≤ h → 23 ≤ h - d → true ≡ leb (worth n) (worth m)
  far_ahead low g f =
      let end = behind_last 23 (k - 1) n m low (omega (arith, s.within)) (omega (arith, turn)) in
      sym (le-leb (worth n) (worth m) (omega arith))

  -- n is ahead, and digits do not make up for it
  pub overtaken : lead is_digit m ≡ length m → h < d → false ≡ leb (worth n) (worth m)
  overtaken digits g =
      let there : k - 1 < length n = from_last_there (k - 1) n (omega arith) in
      let end = behind_last 1 (k - 1) m n (digits_low m digits) (omega arith) (omega (arith, turn)) in
      sym (lt-leb (worth n) (worth m) (omega arith))

-- ---- all digits are compared
pub ahead_all : {n m : List ℕ} {k a : ℕ} → Ahead n m k a → k ≤ 0 → true ≡ leb (worth n) (worth m)
ahead_all {n} {m} {k} {a} s h =
    let all-n : but_last k n ≡ n = take_all (length n - k) n (omega arith) in
    let all-m : but_last k m ≡ m = take_all (length m - k) m (omega arith) in
    let end : worth m ≡ worth n + a = rw (all-n, all-m) at s.is in
    sym (le-leb (worth n) (worth m) (omega arith))
