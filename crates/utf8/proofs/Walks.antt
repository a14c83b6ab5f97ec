-- A walk over the characters of a line that has come to a place: what was counted up to there, and what is left.
-- Assumes nothing.
use mathlib.Core.Path.{◌≡◌, refl, sym, ap, ◌∙◌}
use mathlib.Core.Bool.{Bool, true, false, cond, ◌&&◌}
use mathlib.Core.List.{List, [], ◌∷◌}
use Prim.Native.Nat.{ℕ, ◌+◌, ◌-◌, ◌≤◌, ◌<◌}
use native.Mathlib.Omega.{arith}
use lib.Dec.{eqb, ltb}
use lib.ListN.{length, take, drop, get_or, drop_of_length-le}
use borrow.Author.Tests.{ne_eqb, eqb-true, ltb-true, ltb-false}
use Rattle.reading.proofs.Places.{by_test}
use Rattle.utf8.specs.Utf8.{octets_of, is_space, character, behind, characters, size, is_utf8, dark_lead, dark_end}
use Rattle.std.specs.Prelude.{Some, None}
use Rattle.utf8.proofs.Characters.{octets_some, octets_below, character_at, character_within, some_inside, none_at}
use Rattle.utf8.proofs.Below.{characters_at}

-- past the end there are none
pub none_past : (l : List ℕ) (at : ℕ) → length l ≤ at → characters (drop at l) ≡ []
unfolding characters behind
none_past l at h = rw (drop_of_length-le l h)

none_left : (l : List ℕ) (at : ℕ) → character (take (length l - at) (drop at l)) ≡ None → characters (drop at l) ≡ []
none_left l at e = by_test (ltb at (length l)) (λ t. none_at l at (ltb-true at (length l) t) e) (λ f. none_past l at (ltb-false at (length l) f))

-- ---- f counts octets from the start on, up to some character
pub record Walked (f : List ℕ → ℕ) (l : List ℕ) (at : ℕ) : Type 0 where
  pub within : at ≤ length l
  pub is : at + f (characters (drop at l)) ≡ f (characters l)

pub walked_none_yet : (f : List ℕ → ℕ) (l : List ℕ) → Walked f l 0
walked_none_yet f l = record { within = omega arith; is = omega arith }

module _ {f : List ℕ → ℕ} {l : List ℕ} {at : ℕ} (w : Walked f l at) where
  -- behind a character of n octets
  pub walked_on : (c n : ℕ) → n ≡ octets_of c → character (take (length l - at) (drop at l)) ≡ Some c
      → ((cs : List ℕ) → f (c ∷ cs) ≡ octets_of c + f cs) → Walked f l (at + n)
  walked_on c n o e t =
      let h = some_inside l at c e in
      let i : f (characters (drop at l)) ≡ octets_of c + f (characters (drop (at + octets_of c) l)) = ap f (character_at l at h c e) ∙ t _ in
      rw o (record { within = character_within l at h c e; is = omega (arith, w.is, i) })

  -- it ends where f counts no more
  pub walked_up_to : f (characters (drop at l)) ≡ 0 → at ≡ f (characters l)
  walked_up_to e = omega (arith, w.is)

  -- or where no character is left
  pub walked_out : f [] ≡ 0 → character (take (length l - at) (drop at l)) ≡ None → at ≡ f (characters l)
  walked_out z e = walked_up_to (ap f (none_left l at e) ∙ z)

-- ---- the last character that is no white space ended at `end`
unfoldable pub up_to : ℕ → ℕ → ℕ → ℕ
up_to at end n = cond (eqb n 0) end (at + n)

up_to_some : (at end n : ℕ) → 0 < n → up_to at end n ≡ at + n
unfolding up_to
up_to_some at end n h = rw (ne_eqb n 0 (λ e. omega arith))

up_to_start : (n : ℕ) → up_to 0 0 n ≡ n
unfolding up_to
up_to_start n =
    by_test (eqb n 0) (λ t. let e : up_to 0 0 n ≡ 0 = rw t in omega (arith, e, eqb-true n 0 t)) (λ t. let e : up_to 0 0 n ≡ 0 + n = rw t in omega (arith, e))

pub record Ended (l : List ℕ) (at end : ℕ) : Type 0 where
  pub within : at ≤ length l
  pub is : up_to at end (dark_end (characters (drop at l))) ≡ dark_end (characters l)

pub ended_none_yet : (l : List ℕ) → Ended l 0 0
ended_none_yet l = record { within = omega arith; is = up_to_start _ }

-- one character more: o octets, white or not; behind it n up to the end, or none
ended_turn : (w z : Bool) (at end o n : ℕ) → 0 < o → eqb n 0 ≡ z → up_to at end (cond (w && z) 0 (o + n)) ≡ up_to (at + o) (cond w end (at + o)) n
unfolding up_to
ended_turn true true at end o n h e = let s : up_to (at + o) end n ≡ end = rw e in sym s
ended_turn true false at end o n h e =
    let s : up_to (at + o) end n ≡ at + o + n = rw e in
    up_to_some at end (o + n) (omega arith) ∙ omega (arith, s)
ended_turn false true at end o n h e =
    let s : up_to (at + o) (at + o) n ≡ at + o = rw e in
    up_to_some at end (o + n) (omega arith) ∙ omega (arith, s, eqb-true n 0 e)
ended_turn false false at end o n h e =
    let s : up_to (at + o) (at + o) n ≡ at + o + n = rw e in
    up_to_some at end (o + n) (omega arith) ∙ omega (arith, s)

module _ {l : List ℕ} {at end : ℕ} (w : Ended l at end) where
  pub ended_on : (c n : ℕ) {m : ℕ} → n ≡ octets_of c → character (take (length l - at) (drop at l)) ≡ Some c → m ≡ cond (is_space c) end (at + n)
      → Ended l (at + n) m
  unfolding dark_end
  ended_on c n o e i =
      let h = some_inside l at c e in
      let cs = characters (drop (at + octets_of c) l) in
      let t = ended_turn (is_space c) (eqb (dark_end cs) 0) at end (octets_of c) (dark_end cs) (octets_some c) refl in
      let here = ap (λ (cs : List ℕ). up_to at end (dark_end cs)) (sym (character_at l at h c e)) in
      rw (i, o) (record { within = character_within l at h c e; is = sym t ∙ here ∙ w.is })

  -- no character is left
  pub ended_here : character (take (length l - at) (drop at l)) ≡ None → end ≡ dark_end (characters l)
  unfolding dark_end up_to
  ended_here e = ap (λ (cs : List ℕ). up_to at end (dark_end cs)) (sym (none_left l at e)) ∙ w.is

-- ---- what the counts do at a character, and at the end
pub size_on : (c : ℕ) (cs : List ℕ) → size (c ∷ cs) ≡ octets_of c + size cs
unfolding size
size_on c cs = refl

pub lead_on : (c : ℕ) → is_space c ≡ false → (cs : List ℕ) → dark_lead (c ∷ cs) ≡ octets_of c + dark_lead cs
unfolding dark_lead
lead_on c s cs = rw s

pub lead_white : (c : ℕ) → is_space c ≡ true → (cs : List ℕ) → dark_lead (c ∷ cs) ≡ 0
unfolding dark_lead
lead_white c s cs = rw s

pub lead_none : {cs : List ℕ} → cs ≡ [] → dark_lead cs ≡ 0
unfolding dark_lead
lead_none e = ap dark_lead e

-- ---- nothing is counted that is not there
lead_if : (t : Bool) (o n m : ℕ) → n ≤ m → cond t 0 (o + n) ≤ o + m
lead_if true o n m h = omega arith
lead_if false o n m h = omega arith

lead_within : (cs : List ℕ) → dark_lead cs ≤ size cs
unfolding dark_lead size
lead_within [] = omega arith
lead_within (c ∷ cs) = lead_if (is_space c) (octets_of c) (dark_lead cs) (size cs) (lead_within cs)

pub utf8_lead_within : (l : List ℕ) → is_utf8 l ≡ true → dark_lead (characters l) ≤ length l
unfolding is_utf8
utf8_lead_within l u = omega (arith, lead_within (characters l), eqb-true (size (characters l)) (length l) u)

-- ---- a character below 128 that is no white space
pub walked_below : {l : List ℕ} {at : ℕ} → Walked dark_lead l at → at < length l → get_or l at 0 < 0x80 → is_space (get_or l at 0) ≡ false → Walked dark_lead l (at + 1)
walked_below {l} {at} w h s d =
    let i = ap dark_lead (characters_at l at h s) ∙ lead_on (get_or l at 0) d (characters (drop (at + 1) l)) in
    record { within = omega arith; is = omega (arith, w.is, i, octets_below (get_or l at 0) s) }
