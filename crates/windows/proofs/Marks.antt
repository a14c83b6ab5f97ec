-- Reads up to a mark: taken by lines they come to what they come to at once, whatever the mark is. The delimiter is the case of a word.
-- Assumes nothing.
use mathlib.Core.Path.{◌≡◌, refl, sym, ap, ◌∙◌}
use mathlib.Core.Bool.{Bool, true, false, cond, ◌&&◌}
use mathlib.Core.List.{List, [], ◌∷◌, ◌++◌, append_assoc}
use Prim.Native.Nat.{ℕ, zero, suc, ◌+◌, ◌-◌, ◌≤◌, ◌<◌}
use native.Mathlib.Omega.{arith}
use lib.Dec.{eqb}
use lib.ListN.{length, take, drop, get_or, length-append, length-take, take-append-drop}
use lib.Seq.{drop-drop, get_or-drop, take_at, drop_at, length-take-le}
use borrow.Author.Tests.{eqb-true, eqb-false, eq-eqb, ne_eqb}
use Rattle.reading.proofs.Ends.{ends_short, ends_crlf}
use Rattle.reading.proofs.Pieces.{got_reach, got_length, got_splits, got_moves, got_holds, past_at}
use Rattle.reading.proofs.Places.{by_test, first_is}
use Rattle.reading.specs.Bytes.{ends_with, first, first_place, holds}
use Rattle.reading.specs.Reading.{crlf, a_line, past, reach, Got, got, short, parted, fetch}
use Rattle.std.specs.Prelude.{Option, Some, None}
use Rattle.windows.proofs.Piecemeal.{onto, Piecemeal}
use Rattle.windows.specs.Pieces.{Mark, or_else, standing, piece_of, is_at, is_mark}

-- ---- what is asked of a mark: it lies inside the bytes, is one alone, and stays one with more behind it
pub record Marks (mark : Mark) : Type 0 where
  pub moves : (s : List ℕ) (n : ℕ) → mark s ≡ Some n → 0 < n
  pub within : (s : List ℕ) (n : ℕ) → mark s ≡ Some n → n ≤ length s
  pub alone : (s : List ℕ) (n : ℕ) → mark s ≡ Some n → mark (take n s) ≡ Some n
  pub more : (s t : List ℕ) (n : ℕ) → mark s ≡ Some n → mark (s ++ t) ≡ Some n

-- and that a finished line tells whether one opens it
pub record Told (mark : Mark) : Type 0 where
  pub none : (s l r t : List ℕ) → mark s ≡ None → fetch a_line s ≡ got l r → mark (s ++ t) ≡ None

-- ---- the read at once: up to the first place where a mark may stand and does, and that; `here` says whether one may stand at the front
unfoldable pub stands_at : Mark → Bool → List ℕ → ℕ → Option ℕ
stands_at mark here s p = standing mark (cond (eqb p 0) here (ends_with crlf (take p s))) (drop p s)

-- the first of the n places from p on where something stands, and the place behind that
unfoldable pub first_end : (ℕ → Option ℕ) → ℕ → ℕ → Option ℕ
first_end f p zero = None
first_end f p (suc n) = or_else (past p (f p)) (first_end f (p + 1) n)

unfoldable pub up_to : Mark → Bool → List ℕ → Got
up_to mark here s = parted s (first_end (stands_at mark here s) 0 (length s))

-- ---- first places
past_past : (m p : ℕ) (a : Option ℕ) → past (m + p) a ≡ past m (past p a)
unfolding past
past_past m p (Some x) = ap Some (let n : x + (m + p) ≡ x + p + m = omega arith in n)
past_past m p None = refl

past_or : (m : ℕ) (a b : Option ℕ) → or_else (past m a) (past m b) ≡ past m (or_else a b)
unfolding past or_else
past_or m (Some x) b = refl
past_or m None b = refl

-- a search that starts m later, where the same stands
end_shift : (m p n : ℕ) (f g : ℕ → Option ℕ) → ((k : ℕ) → p ≤ k → k < p + n → f (m + k) ≡ g k) → first_end f (m + p) n ≡ past m (first_end g p n)
unfolding first_end past
end_shift m p zero f g h = refl
end_shift m p (suc n) f g h =
    let e : m + p + 1 ≡ m + (p + 1) = omega arith in
    let i : first_end f (m + (p + 1)) n ≡ past m (first_end g (p + 1) n) = end_shift m (p + 1) n f g (λ k a b. h k (omega arith) (omega arith)) in
    rw (e, i, h p (omega arith) (omega arith), past_past m p (g p)) (past_or m (past p (g p)) (first_end g (p + 1) n))

-- places where nothing stands
end_skip : (m p n : ℕ) (f : ℕ → Option ℕ) → ((k : ℕ) → p ≤ k → k < p + m → f k ≡ None) → first_end f p (m + n) ≡ first_end f (p + m) n
unfolding first_end past or_else
end_skip zero p n f h = let e : p + 0 ≡ p = omega arith in let z : 0 + n ≡ n = omega arith in rw (e, z)
end_skip (suc m) p n f h =
    let e : p + suc m ≡ p + 1 + m = omega arith in
    let z : suc m + n ≡ suc (m + n) = omega arith in
    rw (z, h p (omega arith) (omega arith), e) (end_skip m (p + 1) n f (λ k a b. h k (omega arith) (omega arith)))

end_vain : (p n : ℕ) (f : ℕ → Option ℕ) → ((k : ℕ) → p ≤ k → k < p + n → f k ≡ None) → first_end f p n ≡ None
unfolding first_end past or_else
end_vain p zero f h = refl
end_vain p (suc n) f h = rw (h p (omega arith) (omega arith)) (end_vain (p + 1) n f (λ k a b. h k (omega arith) (omega arith)))

nowhere_turn : (p n : ℕ) (f : ℕ → Bool) (c : Bool) → f p ≡ c → ((k : ℕ) → first f (p + 1) n ≡ None → p + 1 ≤ k → k < p + 1 + n → f k ≡ false)
    → cond c (Some p) (first f (p + 1) n) ≡ None → (k : ℕ) → p ≤ k → k < p + suc n → f k ≡ false
nowhere_turn p n f true t i e k a b = absurd (let z : ◌≡◌ {A = ℕ} 0 1 = cc in omega arith)
nowhere_turn p n f false t i e k a b =
    by_test (eqb k p) (λ q. ap f (eqb-true k p q) ∙ t) (λ q. let d : p + 1 ≤ k = omega (arith, eqb-false k p q) in i k e d (omega arith))

first_nowhere : (p n : ℕ) (f : ℕ → Bool) → first f p n ≡ None → (k : ℕ) → p ≤ k → k < p + n → f k ≡ false
unfolding first
first_nowhere p zero f e k a b = absurd (omega arith)
first_nowhere p (suc n) f e k a b = nowhere_turn p n f (f p) refl (λ j d. first_nowhere (p + 1) n f d j) e k a b

-- ---- lines
and_no : (a : Bool) → (a && false) ≡ false
and_no true = refl
and_no false = refl

-- no LF is before p, so that no CRLF is
no_crlf : (s : List ℕ) (p : ℕ) → 0 < p → p ≤ length s → eqb (get_or s (p - 1) 0) 10 ≡ false → ends_with crlf (take p s) ≡ false
no_crlf s p pos within none =
    by_test (eqb p 1)
    (λ q. sym (ends_short crlf (take p s) (omega (arith, eqb-true p 1 q, length-take p s))))
    (λ q. ends_crlf s p (omega (arith, eqb-false p 1 q)) within ∙ rw (none, and_no))

pub record Lined (s l r : List ℕ) : Type 0 where
  pub made : s ≡ l ++ r
  pub long : 0 < length l
  pub room : length l + length r ≡ length s
  pub front : take (length l) s ≡ l
  pub back : drop (length l) s ≡ r
  pub end : get_or s (length l - 1) 0 ≡ 10
  pub no : (k : ℕ) → k < length l - 1 → eqb (get_or s k 0) 10 ≡ false

pub lined : (s l r : List ℕ) → fetch a_line s ≡ got l r → Lined s l r
unfolding reach first_place holds
lined s l r f =
    let e = got_reach a_line s l r f in
    let n : length l ≡ e.0 = got_length a_line s l r f in
    let q = past_at 1 (first (holds 10 s) 0 (length s)) e.0 e.1 in
    let i = first_is (holds 10 s) 0 (length s) q.0 q.1 in
    let m : length l - 1 ≡ q.0 = omega (arith, q.2) in
    let p : s ≡ l ++ r = got_splits a_line s l r f in
    record {
      made = p;
      long = omega (arith, q.2);
      room = sym (ap length p ∙ length-append l r);
      front = ap (take (length l)) p ∙ take_at l r (length l) refl;
      back = ap (drop (length l)) p ∙ drop_at l r (length l) refl;
      end = rw m (eqb-true _ 10 i.passes);
      no = λ k h. i.none k (omega arith) (omega arith);
    }

past_none : (s : List ℕ) (p : Option ℕ) → parted s (past 1 p) ≡ short → p ≡ None
unfolding parted past
past_none s (Some p) h = absurd (let z : ◌≡◌ {A = ℕ} 0 1 = cc in omega arith)
past_none s None h = refl

pub no_line : (s : List ℕ) → fetch a_line s ≡ short → (k : ℕ) → k < length s → eqb (get_or s k 0) 10 ≡ false
unfolding fetch reach first_place holds
no_line s h k g = first_nowhere 0 (length s) (holds 10 s) (past_none s (first (holds 10 s) 0 (length s)) h) k (omega arith) (omega arith)

take_more : (l r : List ℕ) (k : ℕ) → take (length l + k) (l ++ r) ≡ l ++ take k r
take_more [] r k = let z : 0 + k ≡ k = omega arith in rw z
take_more (x ∷ l) r k = let z : suc (length l) + k ≡ suc (length l + k) = omega arith in rw z (ap (λ (m : List ℕ). x ∷ m) (take_more l r k))

parted_onto : (s l r : List ℕ) → s ≡ l ++ r → (p : Option ℕ) → parted s (past (length l) p) ≡ onto l (parted r p)
unfolding parted past onto
parted_onto s l r e (Some q) =
    let m : q + length l ≡ length l + q = omega arith in
    let b : drop (length l + q) (l ++ r) ≡ drop q r = sym (drop-drop q (length l) (l ++ r)) ∙ ap (drop q) (drop_at l r (length l) refl) in
    rw (m, e, take_more l r q, b)
parted_onto s l r e None = refl

-- CRLF ends the same bytes, a line being before them
pub ends_same : (s l r : List ℕ) → Lined s l r → (k : ℕ) → 0 < k → k ≤ length r → ends_with crlf (take (length l + k) s) ≡ ends_with crlf (take k r)
ends_same s l r d k o q =
    by_test (eqb k 1)
    (λ z.
    let i : length l + k - 2 ≡ length l - 1 = omega (arith, eqb-true k 1 z, d.long) in
    ends_crlf s (length l + k) (omega (arith, d.long)) (omega (arith, d.room)) ∙ rw (i, d.end)
    (ends_short crlf (take k r) (omega (arith, eqb-true k 1 z, length-take k r))))
    (λ z.
    let two : 2 ≤ k = omega (arith, eqb-false k 1 z) in
    let i : length l + k - 2 ≡ length l + (k - 2) = omega arith in
    let j : length l + k - 1 ≡ length l + (k - 1) = omega arith in
    ends_crlf s (length l + k) (omega arith) (omega (arith, d.room))
    ∙ rw (i, j, ← (get_or-drop (length l) s (k - 2) 0), ← (get_or-drop (length l) s (k - 1) 0), d.back) (sym (ends_crlf r k two (omega arith))))

-- ---- a read up to a mark, and a line of it
module _ (mark : Mark) (here : Bool) (s : List ℕ) where
  at_front : stands_at mark here s 0 ≡ standing mark here s
  unfolding stands_at
  at_front = refl

  -- behind a byte that is no LF no mark may stand
  not_behind : (p : ℕ) → 0 < p → p ≤ length s → eqb (get_or s (p - 1) 0) 10 ≡ false → stands_at mark here s p ≡ None
  unfolding stands_at standing
  not_behind p pos within none = let n : eqb p 0 ≡ false = ne_eqb p 0 (λ e. omega arith) in rw (n, no_crlf s p pos within none)

  -- nothing stands before the line's end
  before_end : standing mark here s ≡ None → (n : ℕ) → n ≤ length s → ((k : ℕ) → k + 1 < n → eqb (get_or s k 0) 10 ≡ false)
      → (k : ℕ) → 0 ≤ k → k < 0 + n → stands_at mark here s k ≡ None
  before_end e n h free k p q =
      by_test (eqb k 0)
      (λ z. ap (stands_at mark here s) (eqb-true k 0 z) ∙ at_front ∙ e)
      (λ z. let o : 0 < k = omega (arith, eqb-false k 0 z) in not_behind k o (omega arith) (free (k - 1) (omega arith)))

  upto_here : (n : ℕ) → 0 < n → n ≤ length s → standing mark here s ≡ Some n → up_to mark here s ≡ got (take n s) (drop n s)
  unfolding up_to first_end past or_else parted
  upto_here n pos h e =
      let l : length s ≡ suc (length s - 1) = omega arith in
      let z : n + 0 ≡ n = omega arith in
      let f : first_end (stands_at mark here s) 0 (length s) ≡ Some n = rw (l, at_front, e, z) in
      rw f

  upto_none : standing mark here s ≡ None → fetch a_line s ≡ short → up_to mark here s ≡ short
  unfolding up_to parted
  upto_none e f =
      let g : first_end (stands_at mark here s) 0 (length s) ≡ None =
      end_vain 0 (length s) (stands_at mark here s) (before_end e (length s) (omega arith) (λ k h. no_line s f k (omega arith))) in
      rw g

  module _ (l r : List ℕ) (d : Lined s l r) where
    behind : (k : ℕ) → 0 ≤ k → k < 0 + length r → stands_at mark here s (length l + k) ≡ stands_at mark (ends_with crlf l) r k
    unfolding stands_at
    behind k p q =
        let n : eqb (length l + k) 0 ≡ false = ne_eqb (length l + k) 0 (λ e. omega (arith, d.long)) in
        let w : drop (length l + k) s ≡ drop k r = sym (drop-drop k (length l) s) ∙ ap (drop k) d.back in
        by_test (eqb k 0)
        (λ z. let y : length l + k ≡ length l = omega (arith, eqb-true k 0 z) in rw (z, n, w, y, d.front))
        (λ z. rw (z, n, w, ends_same s l r d k (let o : 0 < k = omega (arith, eqb-false k 0 z) in o) (omega arith)))

    -- a line that no mark opens: what is read, is read behind it
    upto_line : standing mark here s ≡ None → up_to mark here s ≡ onto l (up_to mark (ends_with crlf l) r)
    unfolding up_to
    upto_line e =
        let f = stands_at mark here s in
        let g = stands_at mark (ends_with crlf l) r in
        let a : first_end f 0 (length l + length r) ≡ first_end f (0 + length l) (length r) =
        end_skip (length l) 0 (length r) f (before_end e (length l) (omega (arith, d.room)) (λ k h. d.no k (omega arith))) in
        let z : 0 + length l ≡ length l + 0 = omega arith in
        let c : first_end f (length l + 0) (length r) ≡ past (length l) (first_end g 0 (length r)) = end_shift (length l) 0 (length r) f g behind in
        let b : first_end f 0 (length s) ≡ past (length l) (first_end g 0 (length r)) = rw (← d.room, a, z) c in
        rw b (parted_onto s l r d.made (first_end g 0 (length r)))

-- ---- by lines
pub got_none : {p r : List ℕ} → short ≡ got p r → ⊥
got_none h = let z : ◌≡◌ {A = ℕ} 0 1 = cc in omega arith

got_same : {p r q t : List ℕ} → got p r ≡ got q t → (p ≡ q) × (r ≡ t)
got_same h = (cc, cc)

module _ {mark : Mark} (laws : Marks mark) where
  -- a mark that may stand
  may : (here : Bool) (s : List ℕ) (n : ℕ) → standing mark here s ≡ Some n → (here ≡ true) × (mark s ≡ Some n)
  unfolding standing
  may true s n e = (refl, e)
  may false s n e = absurd (let z : ◌≡◌ {A = ℕ} 0 1 = cc in omega arith)

  stands : (here : Bool) (s : List ℕ) (n : ℕ) → here ≡ true → mark s ≡ Some n → standing mark here s ≡ Some n
  unfolding standing
  stands here s n h e = rw (h, e)

  -- the two ways to get a piece
  pub data Way (here : Bool) (s p r : List ℕ) : Type 0 where
    marked : (n : ℕ) → standing mark here s ≡ Some n → p ≡ take n s → r ≡ drop n s → length p ≡ n → is_mark mark here p ≡ true → Way here s p r
    line : standing mark here s ≡ None → fetch a_line s ≡ got p r → is_mark mark here p ≡ false → Way here s p r

  is_mark_lem : (here : Bool) (p : List ℕ) → standing mark here p ≡ Some (length p) → is_mark mark here p ≡ true
  unfolding is_mark is_at
  is_mark_lem here p e = rw e (eq-eqb (length p) (length p) refl)

  no_mark : (here : Bool) (s p r : List ℕ) → standing mark here s ≡ None → s ≡ p ++ r → (x : Option ℕ) → standing mark here p ≡ x → is_at (length p) x ≡ false
  unfolding is_at
  no_mark here s p r e m (Some n) h =
      let w = may here p n h in
      let y : standing mark here s ≡ Some n = rw m (stands here (p ++ r) n w.0 (laws.more p r n w.1)) in
      absurd (let z : ◌≡◌ {A = ℕ} 0 1 = cc in omega arith)
  no_mark here s p r e m None h = refl

  pub way : (here : Bool) (s p r : List ℕ) → piece_of mark here s ≡ got p r → Way here s p r
  unfolding piece_of or_else parted fetch is_mark
  way here s p r e = by_standing (standing mark here s) refl e
    where
      by_standing : (x : Option ℕ) → standing mark here s ≡ x → parted s (or_else x (reach a_line s)) ≡ got p r → Way here s p r
      by_standing (Some n) h g =
          let q = got_same g in
          let w = may here s n h in
          let l : length p ≡ n = ap length (sym q.0) ∙ length-take-le n s (laws.within s n w.1) in
          let t : standing mark here p ≡ Some (length p) = rw (l, ← q.0) (stands here (take n s) n w.0 (laws.alone s n w.1)) in
          marked n h (sym q.0) (sym q.1) l (is_mark_lem here p t)
      by_standing None h g = line h g (no_mark here s p r h (got_splits a_line s p r g) (standing mark here p) refl)

  pub piece_splits : (here : Bool) (s p r : List ℕ) → piece_of mark here s ≡ got p r → (s ≡ p ++ r) × (0 < length p)
  piece_splits here s p r e = by_way (way here s p r e)
    where
      by_way : Way here s p r → (s ≡ p ++ r) × (0 < length p)
      by_way (marked n h a b l i) = (sym (rw (a, b) (take-append-drop n s)), omega (arith, laws.moves s n (may here s n h).1))
      by_way (line h g i) = (got_splits a_line s p r g, got_moves a_line s p r g)

  pub by_lines : Piecemeal (piece_of mark) (is_mark mark) (λ here l. ends_with crlf l) (up_to mark)
  unfolding piece_of or_else parted fetch
  by_lines = record { ends = ends; on = on; waits = waits }
    where
      contra : (here : Bool) (p : List ℕ) → is_mark mark here p ≡ true → is_mark mark here p ≡ false → ⊥
      contra here p a b = let c : true ≡ false = sym a ∙ b in let z : ◌≡◌ {A = ℕ} 0 1 = cc in omega arith

      ends : (here : Bool) (s p r : List ℕ) → piece_of mark here s ≡ got p r → is_mark mark here p ≡ true → up_to mark here s ≡ got p r
      ends here s p r e i = by_way (way here s p r e)
        where
          by_way : Way here s p r → up_to mark here s ≡ got p r
          by_way (marked n h a b l j) =
              let w = may here s n h in
              upto_here mark here s n (laws.moves s n w.1) (laws.within s n w.1) h ∙ rw (← a, ← b)
          by_way (line h g j) = absurd (contra here p i j)

      on : (here : Bool) (s p r : List ℕ) → piece_of mark here s ≡ got p r → is_mark mark here p ≡ false → up_to mark here s ≡ onto p (up_to mark (ends_with crlf p) r)
      on here s p r e i = by_way (way here s p r e)
        where
          by_way : Way here s p r → up_to mark here s ≡ onto p (up_to mark (ends_with crlf p) r)
          by_way (marked n h a b l j) = absurd (contra here p j i)
          by_way (line h g j) = upto_line mark here s p r (lined s p r g) h

      waits : (here : Bool) (s : List ℕ) → piece_of mark here s ≡ short → up_to mark here s ≡ short
      waits here s e = by_standing (standing mark here s) refl e
        where
          by_standing : (x : Option ℕ) → standing mark here s ≡ x → parted s (or_else x (reach a_line s)) ≡ short → up_to mark here s ≡ short
          by_standing (Some n) h g = absurd (got_none (sym g))
          by_standing None h g = upto_none mark here s h g

  none_on : Told mark → (here : Bool) (s l r t : List ℕ) → standing mark here s ≡ None → fetch a_line s ≡ got l r → standing mark here (s ++ t) ≡ None
  unfolding standing
  none_on told true s l r t h g = told.none s l r t h g
  none_on told false s l r t h g = refl

  -- bytes added behind change nothing, where a finished line tells
  pub piece_holds : Told mark → (here : Bool) (s p r t : List ℕ) → piece_of mark here s ≡ got p r → piece_of mark here (s ++ t) ≡ got p (r ++ t)
  unfolding piece_of or_else parted fetch
  piece_holds told here s p r t e = by_way (way here s p r e)
    where
      by_way : Way here s p r → piece_of mark here (s ++ t) ≡ got p (r ++ t)
      by_way (marked n h a b l i) =
          let w = may here s n h in
          let m : s ++ t ≡ p ++ (r ++ t) = ap (λ (x : List ℕ). x ++ t) (piece_splits here s p r e).0 ∙ append_assoc p r t in
          rw (stands here (s ++ t) n w.0 (laws.more s t n w.1), m, take_at p (r ++ t) n l, drop_at p (r ++ t) n l)
      by_way (line h g i) = rw (none_on told here s p r t h g) (got_holds a_line s p r g t)
