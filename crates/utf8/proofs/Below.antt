-- Characters and bytes: below 128 they are the same, and what the bytes at a line's end say of its last characters.
-- Assumes nothing.
use mathlib.Core.Path.{◌≡◌, refl, sym, ap, ◌∙◌}
use mathlib.Core.Bool.{Bool, true, false, cond, ◌&&◌, ◌||◌}
use mathlib.Core.List.{List, [], ◌∷◌}
use Prim.Native.Nat.{ℕ, zero, suc, ◌+◌, ◌-◌, ◌≤◌, ◌<◌}
use native.Mathlib.Omega.{arith}
use lib.Dec.{eqb, leb, ltb}
use lib.ListN.{length, drop, get_or}
use borrow.Author.Tests.{eqb-true, eqb-false, ltb-true, ltb-false, lt-ltb, lt-leb, ne_eqb}
use Rattle.classes.specs.Classes.{is_white}
use Rattle.reading.proofs.Places.{by_test}
use Rattle.reading.proofs.Words.{left_at}
use Rattle.utf8.specs.Utf8.{octets_of, is_space, opened, character, onto, behind, characters, size, is_utf8, dark_end}
use Rattle.std.specs.Prelude.{Option, Some, None}
use Rattle.utf8.proofs.Characters.{octets_some, octets_below, own_octet, long_octets}

pub unlike : {a : Bool} → a ≡ true → a ≡ false → ⊥
unlike t f = let e : true ≡ false = sym t ∙ f in absurd (let z : ◌≡◌ {A = ℕ} 0 1 = cc in omega arith)

-- ---- one character

or_none : (a : Bool) → (a || false) ≡ a
or_none true = refl
or_none false = refl

and_none : (a : Bool) → ((a && false) || false) ≡ false
and_none true = refl
and_none false = refl

pub space_below : (c : ℕ) → c < 0x80 → is_space c ≡ is_white c
unfolding is_space
space_below c h =
    rw (
      ne_eqb c 0x85 (λ e. omega arith),
      ne_eqb c 0xa0 (λ e. omega arith),
      ne_eqb c 0x1680 (λ e. omega arith),
      lt-leb 0x2000 c (omega arith),
      lt-leb 0x2028 c (omega arith),
      ne_eqb c 0x202f (λ e. omega arith),
      ne_eqb c 0x205f (λ e. omega arith),
      ne_eqb c 0x3000 (λ e. omega arith),
    )
    (or_none (is_white c))

pub above_dark : (b : ℕ) → 32 < b → is_white b ≡ false
unfolding is_white
above_dark b h = rw (lt-leb b 13 (omega arith), ne_eqb b 32 (λ e. omega arith)) (and_none (leb 9 b))

pub character_below : (b : ℕ) (l : List ℕ) → b < 0x80 → characters (b ∷ l) ≡ b ∷ characters l
unfolding characters behind character opened onto
character_below b l h = rw (lt-ltb b 0x80 h, octets_below b h)

-- at a place
pub characters_at : (l : List ℕ) (at : ℕ) → at < length l → get_or l at 0 < 0x80 → characters (drop at l) ≡ get_or l at 0 ∷ characters (drop (at + 1) l)
characters_at l at h s = ap characters (left_at l at h) ∙ character_below (get_or l at 0) (drop (at + 1) l) s

-- ---- the end of a line, behind the k octets that are left of a character

-- without trailing white space it ends at e: no byte from there on is dark and below 128, and the byte before is not white
pub record Trails (k : ℕ) (l : List ℕ) (e : ℕ) : Type 0 where
  pub inside : e ≤ length l
  pub white : (p : ℕ) → e ≤ p → p < length l → get_or l p 0 < 0x80 → is_white (get_or l p 0) ≡ true
  pub dark : (p : ℕ) → k ≤ p → p + 1 ≡ e → is_white (get_or l p 0) ≡ false

trails_same : {k e f : ℕ} {l : List ℕ} → e ≡ f → Trails k l e → Trails k l f
trails_same n t =
    record { inside = omega (arith, t.inside); white = λ p h g s. t.white p (omega arith) g s; dark = λ p h g. t.dark p h (omega arith) }

-- a byte more in front
module _ (b k : ℕ) (l : List ℕ) (e : ℕ) (t : Trails k l e) where
  white_on : (p : ℕ) → suc e ≤ p → p < suc (length l) → get_or (b ∷ l) p 0 < 0x80 → is_white (get_or (b ∷ l) p 0) ≡ true
  white_on zero h g s = absurd (omega arith)
  white_on (suc p) h g s = t.white p (omega arith) (omega arith) s

  dark_on : (p : ℕ) → suc k ≤ p → p + 1 ≡ suc e → is_white (get_or (b ∷ l) p 0) ≡ false
  dark_on zero h g = absurd (omega arith)
  dark_on (suc p) h g = t.dark p (omega arith) (omega arith)

  trails_on : Trails (suc k) (b ∷ l) (suc e)
  trails_on = record { inside = omega (arith, t.inside); white = white_on; dark = dark_on }

-- a character in front, whole
module _ (b : ℕ) (l : List ℕ) (c : ℕ) (e : character (b ∷ l) ≡ Some c) where
  high : ltb b 0x80 ≡ false → (p : ℕ) → p < octets_of c → 0x80 ≤ get_or (b ∷ l) p 0
  high f zero h = ltb-false b 0x80 f
  high f (suc p) h = (long_octets b l c e f).tails p (omega arith)

  own : ltb b 0x80 ≡ true → (p : ℕ) → p < octets_of c → is_white (get_or (b ∷ l) p 0) ≡ is_space c
  own t zero h = sym (space_below b (ltb-true b 0x80 t)) ∙ ap is_space (own_octet b l c e t)
  own t (suc p) h = absurd (omega (arith, octets_below b (ltb-true b 0x80 t), ap octets_of (own_octet b l c e t)))

  octet_white : is_space c ≡ true → (p : ℕ) → p < octets_of c → get_or (b ∷ l) p 0 < 0x80 → is_white (get_or (b ∷ l) p 0) ≡ true
  octet_white w p h s = by_test (ltb b 0x80) (λ t. own t p h ∙ w) (λ f. absurd (omega (arith, high f p h)))

  octet_dark : is_space c ≡ false → (p : ℕ) → p < octets_of c → is_white (get_or (b ∷ l) p 0) ≡ false
  octet_dark w p h = by_test (ltb b 0x80) (λ t. own t p h ∙ w) (λ f. above_dark (get_or (b ∷ l) p 0) (omega (arith, high f p h)))

  -- it is white, and what is behind it too
  one_white : is_space c ≡ true → Trails (octets_of c) (b ∷ l) (octets_of c) → Trails 0 (b ∷ l) 0
  one_white w t =
      record {
        inside = omega arith;
        white = λ p h g s. by_test (ltb p (octets_of c)) (λ i. octet_white w p (ltb-true p (octets_of c) i) s) (λ i. t.white p (ltb-false p (octets_of c) i) g s);
        dark = λ p h g. absurd (omega arith);
      }

  -- it is dark, or something behind it is
  one_dark : (d : ℕ) → (d ≡ 0 → is_space c ≡ false) → Trails (octets_of c) (b ∷ l) (octets_of c + d) → Trails 0 (b ∷ l) (octets_of c + d)
  one_dark d w t =
      record {
        inside = t.inside;
        white = t.white;
        dark = λ p h g.
            by_test (ltb p (octets_of c))
            (λ i. octet_dark (w (omega (arith, ltb-true p (octets_of c) i))) p (ltb-true p (octets_of c) i))
            (λ i. t.dark p (ltb-false p (octets_of c) i) g);
      }

  trails_one : (d : ℕ) → Trails (octets_of c) (b ∷ l) (octets_of c + d) → (w z : Bool) → is_space c ≡ w → eqb d 0 ≡ z
      → Trails 0 (b ∷ l) (cond (w && z) 0 (octets_of c + d))
  trails_one d t true true w z = one_white w (trails_same (omega (arith, eqb-true d 0 z)) t)
  trails_one d t true false w z = one_dark d (λ n. absurd (eqb-false d 0 z n)) t
  trails_one d t false true w z = one_dark d (λ n. w) t
  trails_one d t false false w z = one_dark d (λ n. w) t

trails_zero : (b : ℕ) (l : List ℕ) (f : Option ℕ) → character (b ∷ l) ≡ f → ((k : ℕ) → k + size (behind k l) ≡ length l → Trails k l (k + dark_end (behind k l)))
    → size (onto f (λ (k : ℕ). behind k l)) ≡ suc (length l) → Trails 0 (b ∷ l) (dark_end (onto f (λ (k : ℕ). behind k l)))
unfolding onto size dark_end
trails_zero b l (Some c) e i s =
    let k = octets_of c - 1 in
    let d = dark_end (behind k l) in
    let n : suc k ≡ octets_of c = omega (arith, octets_some c) in
    let t : Trails (suc k) (b ∷ l) (suc (k + d)) = trails_on b k l (k + d) (i k (omega (arith, octets_some c))) in
    let u : Trails (octets_of c) (b ∷ l) (octets_of c + d) = trails_same (omega (arith, octets_some c)) (rw n at t) in
    trails_one b l c e d u (is_space c) (eqb d 0) refl refl
trails_zero b l None e i s = absurd (omega arith)

pub trails : (k : ℕ) (l : List ℕ) → k + size (behind k l) ≡ length l → Trails k l (k + dark_end (behind k l))
unfolding behind size dark_end
trails k [] e = record { inside = omega arith; white = λ p h g s. absurd (omega arith); dark = λ p h g. absurd (omega arith) }
trails zero (b ∷ l) e = trails_same (omega arith) (trails_zero b l (character (b ∷ l)) refl (λ k. trails k l) (omega arith))
trails (suc k) (b ∷ l) e = trails_same (omega arith) (trails_on b k l _ (trails k l (omega arith)))

pub utf8_trails : (l : List ℕ) → is_utf8 l ≡ true → Trails 0 l (dark_end (characters l))
unfolding is_utf8 characters
utf8_trails l u = trails_same (omega arith) (trails 0 l (omega (arith, eqb-true (size (behind 0 l)) (length l) u)))
