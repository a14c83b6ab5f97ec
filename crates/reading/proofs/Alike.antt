-- What is read where the bytes are others: a read's reach hangs on few of them.
-- Assumes nothing.
use mathlib.Core.Path.{◌≡◌, refl, sym, ap, ◌∙◌}
use mathlib.Core.List.{List, [], ◌∷◌, ◌++◌}
use Prim.Native.Nat.{ℕ, ◌+◌, ◌-◌, ◌≤◌, ◌<◌}
use native.Mathlib.Omega.{arith}
use lib.Dec.{eqb, ltb}
use lib.ListN.{length, take, drop, get_or, take-append-drop, length-take, drop_of_length-le}
use lib.Seq.{take-length}
use borrow.Author.Tests.{eqb-true, eqb-false, ltb-true, ltb-false}
use Rattle.reading.specs.Bytes.{ends_with, first_place, holds}
use Rattle.reading.specs.Reading.{crlf, drop_end, clean, Need, a_line, bytes, past, reach, Got, got, short, parted, fetch}
use Rattle.std.specs.Prelude.{Some}
use Rattle.reading.proofs.Ends.{ends_short, ends_crlf, drop_end_none, drop_end_here, drop_end_not, drop_end_within, clean_length}
use Rattle.reading.proofs.Pieces.{got_holds, got_reach, got_length, past_at}
use Rattle.reading.proofs.Places.{by_test, first_moved}

-- ---- a piece cut short is no piece
cut_if : (need : Need) (s p r : List ℕ) (k : ℕ) (g : Got) → fetch need s ≡ got p r → k < length p → fetch need (take k s) ≡ g → g ≡ short
cut_if need s p r k short e h f = refl
cut_if need s p r k (got q x) e h f =
    let a : fetch need s ≡ got q (x ++ drop k s) = ap (fetch need) (sym (take-append-drop k s)) ∙ got_holds need (take k s) q x f (drop k s) in
    let b : p ≡ q = let c = sym e ∙ a in cc in
    absurd (omega (
      arith,
      ap length b,
      got_length need (take k s) q x f,
      ap length (got_reach need (take k s) q x f).2,
      length-take (got_reach need (take k s) q x f).0 (take k s),
      length-take k s,
    ))

pub got_cut : (need : Need) (s p r : List ℕ) (k : ℕ) → fetch need s ≡ got p r → k < length p → fetch need (take k s) ≡ short
got_cut need s p r k e h = cut_if need s p r k (fetch need (take k s)) e h refl

-- ---- a read that reaches the end of its bytes takes them all
whole : (need : Need) (q : List ℕ) → reach need q ≡ Some (length q) → fetch need q ≡ got q []
unfolding fetch parted
whole need q h = rw (h, take-length q, drop_of_length-le q (let g : length q ≤ length q = omega arith in g))

module _ (p q : List ℕ) (long : length q ≡ length p) where
  -- a line is a line where the LFs are
  pub line_alike : fetch a_line p ≡ got p [] → ((k : ℕ) → k < length p → eqb (get_or q k 0) 10 ≡ eqb (get_or p k 0) 10) → fetch a_line q ≡ got q []
  unfolding reach past holds
  line_alike g same =
      let e = got_reach a_line p p [] g in
      let n : length p ≡ e.0 = got_length a_line p p [] g in
      let f = past_at 1 (first_place (holds 10 p) p) e.0 e.1 in
      whole a_line q
      (rw (first_moved (holds 10 p) (holds 10 q) p q f.0 f.1 (λ k h. same k (omega (arith, f.2))) (omega (arith, f.2)))
      (ap Some (let m : f.0 + 1 ≡ length q = omega (arith, f.2) in m)))

  -- a sized read hangs on how many bytes there are
  pub bytes_alike : (n : ℕ) → fetch (bytes n) p ≡ got p [] → fetch (bytes n) q ≡ got q []
  unfolding reach
  bytes_alike n g =
      let e = got_reach (bytes n) p p [] g in
      whole (bytes n) q (rw long (e.1 ∙ ap Some (sym (got_length (bytes n) p p [] g))))

-- ---- a clean line is as long where CR and LF are
end_alike : (b : ℕ) (l m : List ℕ) (n : ℕ) → n ≤ length l → n ≤ length m → (0 < n → eqb (get_or m (n - 1) 0) b ≡ eqb (get_or l (n - 1) 0) b)
    → length (drop_end (b ∷ []) (take n m)) ≡ length (drop_end (b ∷ []) (take n l))
end_alike b l m n h i same =
    by_test (eqb n 0)
    (λ z. let e = eqb-true n 0 z in sym (drop_end_none b m n e) ∙ drop_end_none b l n e)
    (λ z.
    let o : 0 < n = omega (arith, eqb-false n 0 z) in
    by_test (eqb (get_or l (n - 1) 0) b)
    (λ t. sym (drop_end_here b m n o i (eqb-true _ b (same o ∙ t))) ∙ drop_end_here b l n o h (eqb-true _ b t))
    (λ t. sym (drop_end_not b m n o i (eqb-false _ b (same o ∙ t))) ∙ drop_end_not b l n o h (eqb-false _ b t)))

module _ (l m : List ℕ) (long : length m ≡ length l) (lfs : (k : ℕ) → k < length l → eqb (get_or m k 0) 10 ≡ eqb (get_or l k 0) 10)
    (crs : (k : ℕ) → k < length l → eqb (get_or m k 0) 13 ≡ eqb (get_or l k 0) 13) where
  pub clean_alike : length (clean m) ≡ length (clean l)
  clean_alike =
      let n = length (drop_end (10 ∷ []) (take (length l) l)) in
      let w : n ≤ length l = omega (arith, drop_end_within (10 ∷ []) (take (length l) l), length-take (length l) l) in
      let a : n ≡ length (drop_end (10 ∷ []) (take (length m) m)) =
      rw long (sym (end_alike 10 l m (length l) (omega arith) (omega arith) (λ o. lfs (length l - 1) (omega arith)))) in
      sym (clean_length m n _ a refl)
      ∙ end_alike 13 l m n w (omega arith) (λ o. crs (n - 1) (omega arith))
      ∙ clean_length l n _ refl refl

  -- and ends in CRLF where it did
  pub crlf_alike : ends_with crlf m ≡ ends_with crlf l
  crlf_alike =
      by_test (ltb (length l) 2)
      (λ h. let n = ltb-true (length l) 2 h in sym (ends_short crlf m (omega (arith, long))) ∙ ends_short crlf l (omega arith))
      (λ h.
      let n = ltb-false (length l) 2 h in
      let a = rw (take-length m, long) at (ends_crlf m (length m) (omega (arith, long)) (omega arith)) in
      let b = rw (take-length l) at (ends_crlf l (length l) (omega arith) (omega arith)) in
      a ∙ rw (crs (length l - 2) (omega arith), lfs (length l - 1) (omega arith)) (sym b))
