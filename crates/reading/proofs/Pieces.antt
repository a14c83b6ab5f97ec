-- Laws of every read: a piece and the rest make up the input, a piece is not empty, and what is read is told by the piece alone.
-- Assumes nothing.
use mathlib.Core.Path.{◌≡◌, refl, sym, ap, ◌∙◌}
use mathlib.Core.Bool.{Bool, true, false, cond}
use mathlib.Core.List.{List, [], ◌∷◌, ◌++◌, append-nil, append_assoc}
use Prim.Native.Nat.{ℕ, zero, suc, ◌+◌, ◌-◌, ◌≤◌, ◌<◌}
use native.Mathlib.Omega.{arith}
use lib.Dec.{eqb, ltb}
use lib.ListN.{length, take, drop, get_or, take-append-drop, length-take, length-drop}
use lib.Seq.{get_or-take, take-take, length-take-le, take-nil, take_at, drop_at}
use borrow.Author.Tests.{ltb-true, lt-ltb}
use Rattle.reading.specs.Bytes.{starts_with, first_place, holds}
use Rattle.reading.specs.Reading.{dash, may_stand, delimits, Need, a_line, bytes, delimiter, nothing, past, reach, got, parted, fetch}
use Rattle.std.specs.Prelude.{Option, Some, None}
use Rattle.reading.proofs.Places.{at_same, first_moved, first_inside, first_passes}
use Rattle.reading.proofs.Words.{both_true, starts_take, starts_long}

pub drop_take : (k e : ℕ) (l : List ℕ) → drop k (take e l) ≡ take (e - k) (drop k l)
drop_take zero e l = let n : e - 0 ≡ e = omega arith in rw n
drop_take (suc k) zero l = let n : 0 - suc k ≡ 0 = omega arith in rw n
drop_take (suc k) (suc e) [] = sym (take-nil (suc e - suc k))
drop_take (suc k) (suc e) (x ∷ l) = let n : suc e - suc k ≡ e - k = omega arith in rw n (drop_take k e l)

-- ---- lists that begin alike
module _ (s t : List ℕ) (e : ℕ) (alike : take e t ≡ take e s) where
  alike_at : (k : ℕ) → k < e → get_or t k 0 ≡ get_or s k 0
  alike_at k h = sym (get_or-take e t k 0 h) ∙ ap (λ (l : List ℕ). get_or l k 0) alike ∙ get_or-take e s k 0 h

  alike_take : (k : ℕ) → k ≤ e → take k t ≡ take k s
  alike_take k h = sym (take-take k e t h) ∙ ap (take k) alike ∙ take-take k e s h

  alike_long : e ≤ length s → e ≤ length t
  alike_long h = omega (arith, ap length alike, length-take e t, length-take e s)

  -- as far as e
  alike_drop : (k : ℕ) → take (e - k) (drop k t) ≡ take (e - k) (drop k s)
  alike_drop k = sym (drop_take k e t) ∙ ap (drop k) alike ∙ drop_take k e s

-- ---- a read that reaches e
pub record Reaches (need : Need) (s : List ℕ) (e : ℕ) : Type 0 where
  pub moves : 0 < e
  pub within : e ≤ length s
  pub alone : (t : List ℕ) → take e t ≡ take e s → reach need t ≡ Some e

pub past_at : (n : ℕ) (p : Option ℕ) (e : ℕ) → past n p ≡ Some e → (k : ℕ) × (p ≡ Some k) × (k + n ≡ e)
unfolding past
past_at n (Some k) e h = (k, refl, at_same h)
past_at n None e h = absurd (let z : ◌≡◌ {A = ℕ} 0 1 = cc in omega arith)

line_reaches : (s : List ℕ) (p e : ℕ) → first_place (holds 10 s) s ≡ Some p → p + 1 ≡ e → Reaches a_line s e
unfolding reach past holds
line_reaches s p e f h = record {
  moves = omega arith;
  within = omega (arith, first_inside (holds 10 s) s p f);
  alone = λ t a.
      rw (first_moved (holds 10 s) (holds 10 t) s t p f (λ k b. ap (λ (x : ℕ). eqb x 10) (alike_at s t e a k (omega arith)))
      (omega (arith, alike_long s t e a (omega (arith, first_inside (holds 10 s) s p f)))))
      (ap Some h);
}

delimits_same : (b s t : List ℕ) (e k : ℕ) → take e t ≡ take e s → k + length (dash b) ≤ e → delimits b t k ≡ delimits b s k
unfolding delimits may_stand
delimits_same b s t e k a h =
    let d : starts_with (dash b) (drop k t) ≡ starts_with (dash b) (drop k s) =
    sym (starts_take (dash b) (drop k t) (e - k) (omega arith)) ∙ ap (starts_with (dash b)) (alike_drop s t e a k) ∙ starts_take (dash b) (drop k s) (e - k) (omega arith) in
    rw (alike_take s t e a k (omega arith), d)

delimiter_room : (b s : List ℕ) (p : ℕ) → delimits b s p ≡ true → p + length (dash b) ≤ length s
unfolding delimits
delimiter_room b s p h = omega (arith, starts_long (dash b) (drop p s) (both_true (may_stand s p) (starts_with (dash b) (drop p s)) h).1, length-drop p s)

delimiter_reaches : (b s : List ℕ) (p e : ℕ) → first_place (delimits b s) s ≡ Some p → p + length (dash b) ≡ e → Reaches (delimiter b) s e
unfolding reach past
delimiter_reaches b s p e f h =
    let room : e ≤ length s = omega (arith, delimiter_room b s p (first_passes (delimits b s) s p f)) in
    record {
      moves = omega arith;
      within = room;
      alone = λ t a.
          rw (first_moved (delimits b s) (delimits b t) s t p f (λ k g. delimits_same b s t e k a (omega arith))
          (omega (arith, alike_long s t e a room)))
          (ap Some h);
    }

bytes_reaches : (n : ℕ) (s : List ℕ) (e : ℕ) (c : Bool) → ltb n (length s) ≡ c → cond c (Some (n + 1)) None ≡ Some e → Reaches (bytes n) s e
unfolding reach
bytes_reaches n s e true c h =
    let m : n + 1 ≡ e = at_same h in
    let room : n < length s = ltb-true n (length s) c in
    record { moves = omega arith; within = omega arith; alone = λ t a. rw (lt-ltb n (length t) (omega (arith, alike_long s t e a (omega arith)))) (ap Some m) }
bytes_reaches n s e false c h = absurd (let z : ◌≡◌ {A = ℕ} 0 1 = cc in omega arith)

pub reaches : (need : Need) (s : List ℕ) (e : ℕ) → reach need s ≡ Some e → Reaches need s e
unfolding reach
reaches a_line s e h = let p = past_at 1 (first_place (holds 10 s) s) e h in line_reaches s p.0 e p.1 p.2
reaches (bytes n) s e h = bytes_reaches n s e (ltb n (length s)) refl h
reaches (delimiter b) s e h = let p = past_at (length (dash b)) (first_place (delimits b s) s) e h in delimiter_reaches b s p.0 e p.1 p.2
reaches nothing s e h = absurd (let z : ◌≡◌ {A = ℕ} 0 1 = cc in omega arith)

-- ---- what a read got
parted_got : (s : List ℕ) (q : Option ℕ) (p r : List ℕ) → parted s q ≡ got p r → (e : ℕ) × (q ≡ Some e) × (take e s ≡ p) × (drop e s ≡ r)
unfolding parted
parted_got s (Some e) p r h = (e, refl, cc, cc)
parted_got s None p r h = absurd (let z : ◌≡◌ {A = ℕ} 0 1 = cc in omega arith)

module _ (need : Need) (s p r : List ℕ) (g : fetch need s ≡ got p r) where
  -- how far it reached
  pub got_reach : (e : ℕ) × (reach need s ≡ Some e) × (take e s ≡ p) × (drop e s ≡ r)
  unfolding fetch
  got_reach = parted_got s (reach need s) p r g

  got_reaches : Reaches need s got_reach.0
  got_reaches = reaches need s got_reach.0 got_reach.1

  -- piece and rest make up the input
  pub got_splits : s ≡ p ++ r
  got_splits = sym (take-append-drop got_reach.0 s) ∙ rw (got_reach.2, got_reach.3)

  pub got_length : length p ≡ got_reach.0
  got_length = ap length (sym got_reach.2) ∙ length-take-le got_reach.0 s got_reaches.within

  -- a piece is not empty
  pub got_moves : 0 < length p
  got_moves = omega (arith, got_length, got_reaches.moves)

  -- the piece is read the same whatever stands behind it
  pub got_alone : (t : List ℕ) → fetch need (p ++ t) ≡ got p t
  unfolding fetch parted
  got_alone t =
      let e = got_reach.0 in
      let l : length p ≡ e = got_length in
      let a : take e (p ++ t) ≡ take e s = take_at p t e l ∙ sym got_reach.2 in
      rw (got_reaches.alone (p ++ t) a, take_at p t e l, drop_at p t e l)

  -- bytes added behind change nothing
  pub got_holds : (t : List ℕ) → fetch need (s ++ t) ≡ got p (r ++ t)
  got_holds t = ap (λ (l : List ℕ). fetch need (l ++ t)) got_splits ∙ ap (fetch need) (append_assoc p r t) ∙ got_alone (r ++ t)

  -- the piece alone is read the same
  pub got_itself : fetch need p ≡ got p []
  got_itself = ap (fetch need) (sym (append-nil p)) ∙ got_alone []
