-- The characters of a line: how many octets one takes, that they are there, and what stands behind it.
-- Assumes nothing.
use mathlib.Core.Path.{◌≡◌, refl, sym, ap, ◌∙◌}
use mathlib.Core.Bool.{Bool, true, false, cond, ◌&&◌}
use mathlib.Core.List.{List, [], ◌∷◌}
use Prim.Native.Nat.{ℕ, zero, suc, ◌+◌, ◌-◌, ◌≤◌, ◌<◌}
use native.Mathlib.Omega.{arith}
use lib.Dec.{eqb, leb, ltb}
use lib.ListN.{length, take, drop, get_or, length-drop}
use lib.Seq.{drop-drop}
use borrow.Author.Tests.{eqb-true, ltb-true, le-leb, lt-leb}
use Rattle.reading.proofs.Places.{by_test}
use Rattle.reading.proofs.Words.{left_at, rest_is, both_true}
use Rattle.utf8.specs.Utf8.{octets_of, is_scalar, is_tail, lawful, sequence, opened, character, onto, behind, characters}
use Rattle.utf8.proofs.Sequences.{tail_bits}
use Rattle.std.specs.Prelude.{Some, None}

pub of_same : {c d : ℕ} → Some c ≡ Some d → c ≡ d
of_same e = cc

pub broken_not : {P : Type 0} {c : ℕ} → None ≡ Some c → P
broken_not e = absurd (let z : ◌≡◌ {A = ℕ} 0 1 = cc in omega arith)

-- ---- how many octets

some_if : (t : Bool) (m n : ℕ) → 0 < m → 0 < n → 0 < cond t m n
some_if true m n h g = h
some_if false m n h g = g

pub octets_some : (c : ℕ) → 0 < octets_of c
unfolding octets_of
octets_some c =
    some_if (leb c 0x7f) _ _ (omega arith) (some_if (leb c 0x7ff) _ _ (omega arith) (some_if (leb c 0xffff) _ _ (omega arith) (omega arith)))

module _ (c : ℕ) where
  pub octets_one : c ≤ 0x7f → octets_of c ≡ 1
  unfolding octets_of
  octets_one h = rw (le-leb c 0x7f h)

  pub octets_two : 0x7f < c → c ≤ 0x7ff → octets_of c ≡ 2
  unfolding octets_of
  octets_two g h = rw (lt-leb c 0x7f g, le-leb c 0x7ff h)

  pub octets_three : 0x7f < c → 0x7ff < c → c ≤ 0xffff → octets_of c ≡ 3
  unfolding octets_of
  octets_three g₁ g₂ h = rw (lt-leb c 0x7f g₁, lt-leb c 0x7ff g₂, le-leb c 0xffff h)

  pub octets_four : 0x7f < c → 0x7ff < c → 0xffff < c → octets_of c ≡ 4
  unfolding octets_of
  octets_four g₁ g₂ g₃ = rw (lt-leb c 0x7f g₁, lt-leb c 0x7ff g₂, lt-leb c 0xffff g₃)

  pub octets_below : c < 0x80 → octets_of c ≡ 1
  octets_below h = octets_one (omega arith)

-- ---- they are there

-- bits worth c, in n octets, that are read as d
pub record Read (n c d : ℕ) : Type 0 where
  pub number : c ≡ d
  pub takes : octets_of d ≡ n
  pub scalar : is_scalar d ≡ true

pub lawful_read : (n c d : ℕ) → lawful n c ≡ Some d → Read n c d
unfolding lawful
lawful_read n c d e =
    by_test (eqb (octets_of c) n && is_scalar c)
    (λ t.
    let g : c ≡ d = of_same (rw t at e) in
    let both = both_true _ _ t in
    record { number = g; takes = ap octets_of (sym g) ∙ eqb-true _ _ both.0; scalar = ap is_scalar (sym g) ∙ both.1 })
    (λ t. broken_not (rw t at e))

-- n octets that stand for d, k of them in l: each of those is above 127
pub record Fits (n k : ℕ) (l : List ℕ) (d : ℕ) : Type 0 where
  pub takes : octets_of d ≡ n
  pub scalar : is_scalar d ≡ true
  pub room : k ≤ length l
  pub tails : (q : ℕ) → q < k → 0x80 ≤ get_or l q 0

tails_on : (b k : ℕ) (l : List ℕ) → 0x80 ≤ b → ((q : ℕ) → q < k → 0x80 ≤ get_or l q 0) → (q : ℕ) → q < suc k → 0x80 ≤ get_or (b ∷ l) q 0
tails_on b k l h t zero g = h
tails_on b k l h t (suc q) g = t q (omega arith)

pub sequence_fits : (n k c d : ℕ) (l : List ℕ) → sequence n k c l ≡ Some d → Fits n k l d
unfolding sequence
sequence_fits n zero c d l e =
    let r = lawful_read n c d e in
    record { takes = r.takes; scalar = r.scalar; room = omega arith; tails = λ q h. absurd (omega arith) }
sequence_fits n (suc k) c d [] e = broken_not e
sequence_fits n (suc k) c d (b ∷ l) e =
    by_test (is_tail b)
    (λ t.
    let f = sequence_fits n k _ d l (rw t at e) in
    record { takes = f.takes; scalar = f.scalar; room = omega (arith, f.room); tails = tails_on b k l (tail_bits b t).least f.tails })
    (λ t. broken_not (rw t at e))

-- below 128 a character is its octet
pub own_octet : (b : ℕ) (l : List ℕ) (d : ℕ) → character (b ∷ l) ≡ Some d → ltb b 0x80 ≡ true → b ≡ d
unfolding character opened
own_octet b l d e t = of_same (rw t at e)

fits : (k : ℕ) (l : List ℕ) (d : ℕ) → Fits (suc k) k l d → Fits (octets_of d) (octets_of d - 1) l d
fits k l d s = record { takes = refl; scalar = s.scalar; room = omega (arith, s.takes, s.room); tails = λ q h. s.tails q (omega (arith, s.takes)) }

-- above, all its octets are above 127
pub long_octets : (b : ℕ) (l : List ℕ) (d : ℕ) → character (b ∷ l) ≡ Some d → ltb b 0x80 ≡ false → Fits (octets_of d) (octets_of d - 1) l d
unfolding character opened
long_octets b l d e f =
    by_test (ltb b 0xc0) (λ t. broken_not (rw (f, t) at e))
    (λ t₂. by_test (ltb b 0xe0) (λ t. fits 1 l d (sequence_fits 2 1 (b - 0xc0) d l (rw (f, t₂, t) at e)))
    (λ t₃. by_test (ltb b 0xf0) (λ t. fits 2 l d (sequence_fits 3 2 (b - 0xe0) d l (rw (f, t₂, t₃, t) at e)))
    (λ t₄. by_test (ltb b 0xf8) (λ t. fits 3 l d (sequence_fits 4 3 (b - 0xf0) d l (rw (f, t₂, t₃, t₄, t) at e))) (λ t. broken_not (rw (f, t₂, t₃, t₄, t) at e)))))

pub character_room : (l : List ℕ) (d : ℕ) → character l ≡ Some d → octets_of d ≤ length l
unfolding character
character_room [] d e = broken_not e
character_room (b ∷ l) d e =
    by_test (ltb b 0x80)
    (λ t. let s = octets_below b (ltb-true b 0x80 t) in omega (arith, s, ap octets_of (own_octet b l d e t)))
    (λ t. omega (arith, (long_octets b l d e t).room))

-- what is read is a character's number
pub character_scalar : (l : List ℕ) (d : ℕ) → character l ≡ Some d → is_scalar d ≡ true
unfolding character is_scalar
character_scalar [] d e = broken_not e
character_scalar (b ∷ l) d e =
    by_test (ltb b 0x80)
    (λ t.
    let s : d < 0x80 = omega (arith, own_octet b l d e t, ltb-true b 0x80 t) in
    rw (le-leb d 0x10_ffff (omega arith), lt-leb 0xd800 d (omega arith)))
    (λ f. (long_octets b l d e f).scalar)

-- ---- what stands behind

pub character_none : (l : List ℕ) → length l ≡ 0 → None ≡ character l
unfolding character
character_none [] h = refl
character_none (b ∷ l) h = absurd (omega arith)

pub behind_is : (k : ℕ) (l : List ℕ) → behind k l ≡ characters (drop k l)
unfolding behind characters
behind_is zero l = refl
behind_is (suc k) [] = refl
behind_is (suc k) (b ∷ l) = behind_is k l

-- the rest from `at` on, as a call is given it
module _ (l : List ℕ) (at : ℕ) (h : at < length l) where
  abbrev rest : List ℕ
  rest = take (length l - at) (drop at l)

  opens : character (get_or l at 0 ∷ drop (at + 1) l) ≡ character rest
  opens = ap character (sym (left_at l at h) ∙ sym (rest_is l at))

  pub character_at : (c : ℕ) → character rest ≡ Some c → characters (drop at l) ≡ c ∷ characters (drop (at + octets_of c) l)
  unfolding characters behind onto
  character_at c e =
      let n : (at + 1) + (octets_of c - 1) ≡ at + octets_of c = omega (arith, octets_some c) in
      let one : characters (get_or l at 0 ∷ drop (at + 1) l) ≡ c ∷ behind (octets_of c - 1) (drop (at + 1) l) = rw (opens ∙ e) in
      let left = drop-drop (octets_of c - 1) (at + 1) l ∙ ap (λ (k : ℕ). drop k l) n in
      ap characters (left_at l at h) ∙ one ∙ ap (λ (cs : List ℕ). c ∷ cs) (behind_is (octets_of c - 1) (drop (at + 1) l) ∙ ap characters left)

  pub character_within : (c : ℕ) → character rest ≡ Some c → at + octets_of c ≤ length l
  character_within c e = omega (arith, character_room (drop at l) c (ap character (sym (rest_is l at)) ∙ e), length-drop at l)

  pub none_at : character rest ≡ None → characters (drop at l) ≡ []
  unfolding characters behind onto
  none_at e =
      let none : characters (get_or l at 0 ∷ drop (at + 1) l) ≡ [] = rw (opens ∙ e) in
      ap characters (left_at l at h) ∙ none

pub some_inside : (l : List ℕ) (at c : ℕ) → character (take (length l - at) (drop at l)) ≡ Some c → at < length l
some_inside l at c e = omega (arith, octets_some c, character_room (drop at l) c (ap character (sym (rest_is l at)) ∙ e), length-drop at l)
