-- The other way round: a list opens with a character exactly if it opens with what the RFC's table writes for its number.
-- Assumes nothing.
use mathlib.Core.Path.{◌≡◌, sym, ◌∙◌}
use mathlib.Core.Bool.{true, false, cond}
use mathlib.Core.List.{List, [], ◌∷◌, ◌++◌}
use Prim.Native.Nat.{ℕ, ◌+◌, ◌*◌, ◌-◌, ◌/◌, ◌%◌, ◌≤◌, ◌<◌}
use native.Mathlib.Omega.{arith}
use lib.Dec.{leb, ltb}
use lib.ListN.{drop}
use borrow.Author.Tests.{ltb-true, ltb-false, leb-true, leb-false, lt-ltb, le-ltb, le-leb, eq-eqb}
use Rattle.reading.proofs.Places.{by_test}
use Rattle.reading.proofs.Words.{both_true}
use Rattle.utf8.specs.Utf8.{octets_of, is_scalar, is_tail, lawful, sequence, opened, character}
use Rattle.std.specs.Prelude.{Some}
use Rattle.utf8.proofs.Sequences.{tail_bits}
use Rattle.utf8.proofs.Characters.{of_same, broken_not, lawful_read, octets_one, octets_two, octets_three, octets_four}

-- six bits of a number, as a tail
abbrev tail : ℕ → ℕ
tail n = 0x80 + n % 64

-- the octets of a character: RFC 3629, section 3
unfoldable pub encoded : ℕ → List ℕ
encoded c =
    cond (leb c 0x7f) (c ∷ [])
    (cond (leb c 0x7ff) ((0xc0 + c / 64) ∷ tail c ∷ [])
    (cond (leb c 0xffff) ((0xe0 + c / 4096) ∷ tail (c / 64) ∷ tail c ∷ []) ((0xf0 + c / 262144) ∷ tail (c / 4096) ∷ tail (c / 64) ∷ tail c ∷ [])))

-- ---- they are read as that character

tail_is : (n : ℕ) → is_tail (tail n) ≡ true
unfolding is_tail
tail_is n = rw (le-leb 0x80 (tail n) (omega arith), le-leb (tail n) 0xbf (omega arith))

at_most_last : (c : ℕ) → is_scalar c ≡ true → c ≤ 0x10_ffff
unfolding is_scalar
at_most_last c s = leb-true c 0x10_ffff (both_true _ _ s).0

module _ (c : ℕ) (l : List ℕ) (s : is_scalar c ≡ true) where
  lawful_is : (n : ℕ) → octets_of c ≡ n → lawful n c ≡ Some c
  unfolding lawful
  lawful_is n e = rw (eq-eqb (octets_of c) n e, s)

  one : c ≤ 0x7f → character (c ∷ l) ≡ Some c
  unfolding character opened
  one h = rw (lt-ltb c 0x80 (omega arith))

  two : 0x7f < c → c ≤ 0x7ff → character ((0xc0 + c / 64) ∷ tail c ∷ l) ≡ Some c
  unfolding character opened sequence
  two g h =
      let b = 0xc0 + c / 64 in
      let n : (b - 0xc0) * 64 + (tail c - 0x80) ≡ c = omega arith in
      rw (le-ltb b 0x80 (omega arith), le-ltb b 0xc0 (omega arith), lt-ltb b 0xe0 (omega arith), tail_is c, n) (lawful_is 2 (octets_two c g h))

  three : 0x7ff < c → c ≤ 0xffff → character ((0xe0 + c / 4096) ∷ tail (c / 64) ∷ tail c ∷ l) ≡ Some c
  unfolding character opened sequence
  three g h =
      let b = 0xe0 + c / 4096 in
      let n : ((b - 0xe0) * 64 + (tail (c / 64) - 0x80)) * 64 + (tail c - 0x80) ≡ c = omega arith in
      rw (le-ltb b 0x80 (omega arith), le-ltb b 0xc0 (omega arith), le-ltb b 0xe0 (omega arith), lt-ltb b 0xf0 (omega arith), tail_is (c / 64), tail_is c, n)
      (lawful_is 3 (octets_three c (omega arith) g h))

  four : 0xffff < c → c ≤ 0x10_ffff → character ((0xf0 + c / 262144) ∷ tail (c / 4096) ∷ tail (c / 64) ∷ tail c ∷ l) ≡ Some c
  unfolding character opened sequence
  four g h =
      let b = 0xf0 + c / 262144 in
      let n₁ : (b - 0xf0) * 64 + (tail (c / 4096) - 0x80) ≡ c / 4096 = omega arith in
      let n₂ : c / 4096 * 64 + (tail (c / 64) - 0x80) ≡ c / 64 = omega arith in
      let n₃ : c / 64 * 64 + (tail c - 0x80) ≡ c = omega arith in
      rw (
        le-ltb b 0x80 (omega arith),
        le-ltb b 0xc0 (omega arith),
        le-ltb b 0xe0 (omega arith),
        le-ltb b 0xf0 (omega arith),
        lt-ltb b 0xf8 (omega arith),
        tail_is (c / 4096),
        n₁,
        tail_is (c / 64),
        n₂,
        tail_is c,
        n₃,
      )
      (lawful_is 4 (octets_four c (omega arith) (omega arith) g))

  pub read_back : character (encoded c ++ l) ≡ Some c
  unfolding encoded
  read_back =
      by_test (leb c 0x7f) (λ t. rw t (one (leb-true c 0x7f t)))
      (λ f₁. by_test (leb c 0x7ff) (λ t. rw (f₁, t) (two (leb-false c 0x7f f₁) (leb-true c 0x7ff t)))
      (λ f₂. by_test (leb c 0xffff) (λ t. rw (f₁, f₂, t) (three (leb-false c 0x7ff f₂) (leb-true c 0xffff t)))
      (λ f₃. rw (f₁, f₂, f₃) (four (leb-false c 0xffff f₃) (at_most_last c s)))))

-- ---- nothing else is

-- what a number that takes so many octets is written as
module _ (d : ℕ) where
  by_octets : {P : Type 0} (n : ℕ) → octets_of d ≡ n
      → (leb d 0x7f ≡ true → n ≡ 1 → P) → (leb d 0x7f ≡ false → leb d 0x7ff ≡ true → n ≡ 2 → P)
      → (leb d 0x7f ≡ false → leb d 0x7ff ≡ false → leb d 0xffff ≡ true → n ≡ 3 → P)
      → (leb d 0x7f ≡ false → leb d 0x7ff ≡ false → leb d 0xffff ≡ false → n ≡ 4 → P) → P
  by_octets n e p₁ p₂ p₃ p₄ =
      by_test (leb d 0x7f) (λ t. p₁ t (sym e ∙ octets_one d (leb-true d 0x7f t)))
      (λ f₁. by_test (leb d 0x7ff) (λ t. p₂ f₁ t (sym e ∙ octets_two d (leb-false d 0x7f f₁) (leb-true d 0x7ff t)))
      (λ f₂. by_test (leb d 0xffff) (λ t. p₃ f₁ f₂ t (sym e ∙ octets_three d (leb-false d 0x7f f₁) (leb-false d 0x7ff f₂) (leb-true d 0xffff t)))
      (λ f₃. p₄ f₁ f₂ f₃ (sym e ∙ octets_four d (leb-false d 0x7f f₁) (leb-false d 0x7ff f₂) (leb-false d 0xffff f₃)))))

  written_two : octets_of d ≡ 2 → encoded d ≡ (0xc0 + d / 64) ∷ tail d ∷ []
  unfolding encoded
  written_two e = by_octets 2 e (λ _ z. absurd (omega arith)) (λ f t _. rw (f, t)) (λ _ _ _ z. absurd (omega arith)) (λ _ _ _ z. absurd (omega arith))

  written_three : octets_of d ≡ 3 → encoded d ≡ (0xe0 + d / 4096) ∷ tail (d / 64) ∷ tail d ∷ []
  unfolding encoded
  written_three e = by_octets 3 e (λ _ z. absurd (omega arith)) (λ _ _ z. absurd (omega arith)) (λ f₁ f₂ t _. rw (f₁, f₂, t)) (λ _ _ _ z. absurd (omega arith))

  written_four : octets_of d ≡ 4 → encoded d ≡ (0xf0 + d / 262144) ∷ tail (d / 4096) ∷ tail (d / 64) ∷ tail d ∷ []
  unfolding encoded
  written_four e = by_octets 4 e (λ _ z. absurd (omega arith)) (λ _ _ z. absurd (omega arith)) (λ _ _ _ z. absurd (omega arith)) (λ f₁ f₂ f₃ _. rw (f₁, f₂, f₃))

-- a list that opens with what is written for d
abbrev Opens : List ℕ → ℕ → Type 0
Opens l d = l ≡ encoded d ++ drop (octets_of d) l

-- a tail is the number's last six bits, and what stands before it the others
record Last (x t d : ℕ) : Type 0 where
  others : x ≡ d / 64
  bits : t ≡ tail d

last : (x t d : ℕ) → is_tail t ≡ true → x * 64 + (t - 0x80) ≡ d → Last x t d
last x t d i e =
    let s = tail_bits t i in
    record { others = omega (arith, s.least, s.most); bits = omega (arith, s.least, s.most) }

back_two : (b : ℕ) (l : List ℕ) (d : ℕ) → 0xc0 ≤ b → sequence 2 1 (b - 0xc0) l ≡ Some d → Opens (b ∷ l) d
unfolding sequence
back_two b [] d h e = broken_not e
back_two b (t ∷ l) d h e =
    by_test (is_tail t)
    (λ i.
    let r = lawful_read 2 _ d (rw i at e) in
    let n = last (b - 0xc0) t d i r.number in
    let p : b ≡ 0xc0 + d / 64 = omega (arith, n.others) in
    rw (r.takes, written_two d r.takes, p, n.bits))
    (λ i. broken_not (rw i at e))

back_three : (b : ℕ) (l : List ℕ) (d : ℕ) → 0xe0 ≤ b → sequence 3 2 (b - 0xe0) l ≡ Some d → Opens (b ∷ l) d
unfolding sequence
back_three b [] d h e = broken_not e
back_three b (t ∷ []) d h e = by_test (is_tail t) (λ i. broken_not (rw i at e)) (λ i. broken_not (rw i at e))
back_three b (t ∷ u ∷ l) d h e =
    by_test (is_tail t)
    (λ i. by_test (is_tail u)
    (λ j.
    let r = lawful_read 3 _ d (rw (i, j) at e) in
    let n₁ = last ((b - 0xe0) * 64 + (t - 0x80)) u d j r.number in
    let n₂ = last (b - 0xe0) t (d / 64) i n₁.others in
    let p : b ≡ 0xe0 + d / 4096 = omega (arith, n₂.others) in
    rw (r.takes, written_three d r.takes, p, n₂.bits, n₁.bits))
    (λ j. broken_not (rw (i, j) at e)))
    (λ i. broken_not (rw i at e))

back_four : (b : ℕ) (l : List ℕ) (d : ℕ) → 0xf0 ≤ b → sequence 4 3 (b - 0xf0) l ≡ Some d → Opens (b ∷ l) d
unfolding sequence
back_four b [] d h e = broken_not e
back_four b (t ∷ []) d h e = by_test (is_tail t) (λ i. broken_not (rw i at e)) (λ i. broken_not (rw i at e))
back_four b (t ∷ u ∷ []) d h e =
    by_test (is_tail t)
    (λ i. by_test (is_tail u) (λ j. broken_not (rw (i, j) at e)) (λ j. broken_not (rw (i, j) at e)))
    (λ i. broken_not (rw i at e))
back_four b (t ∷ u ∷ v ∷ l) d h e =
    by_test (is_tail t)
    (λ i. by_test (is_tail u)
    (λ j. by_test (is_tail v)
    (λ k.
    let r = lawful_read 4 _ d (rw (i, j, k) at e) in
    let n₁ = last (((b - 0xf0) * 64 + (t - 0x80)) * 64 + (u - 0x80)) v d k r.number in
    let n₂ = last ((b - 0xf0) * 64 + (t - 0x80)) u (d / 64) j n₁.others in
    let far : d / 64 / 64 ≡ d / 4096 = omega arith in
    let n₃ = last (b - 0xf0) t (d / 4096) i (n₂.others ∙ far) in
    let p : b ≡ 0xf0 + d / 262144 = omega (arith, n₃.others) in
    rw (r.takes, written_four d r.takes, p, n₃.bits, n₂.bits, n₁.bits))
    (λ k. broken_not (rw (i, j, k) at e)))
    (λ j. broken_not (rw (i, j) at e)))
    (λ i. broken_not (rw i at e))

back_one : (b : ℕ) (l : List ℕ) (d : ℕ) → b < 0x80 → b ≡ d → Opens (b ∷ l) d
unfolding encoded
back_one b l d h e =
    let m : d ≤ 0x7f = omega arith in
    rw (octets_one d m, le-leb d 0x7f m, e)

pub only_written : (l : List ℕ) (d : ℕ) → character l ≡ Some d → Opens l d
unfolding character opened
only_written [] d e = broken_not e
only_written (b ∷ l) d e =
    by_test (ltb b 0x80) (λ t. back_one b l d (ltb-true b 0x80 t) (of_same (rw t at e)))
    (λ f₁. by_test (ltb b 0xc0) (λ t. broken_not (rw (f₁, t) at e))
    (λ f₂. by_test (ltb b 0xe0) (λ t. back_two b l d (ltb-false b 0xc0 f₂) (rw (f₁, f₂, t) at e))
    (λ f₃. by_test (ltb b 0xf0) (λ t. back_three b l d (ltb-false b 0xe0 f₃) (rw (f₁, f₂, f₃, t) at e))
    (λ f₄. by_test (ltb b 0xf8) (λ t. back_four b l d (ltb-false b 0xf0 f₄) (rw (f₁, f₂, f₃, f₄, t) at e)) (λ f. broken_not (rw (f₁, f₂, f₃, f₄, f) at e))))))
