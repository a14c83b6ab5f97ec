-- Permitted changes: which events allow one, and how changes part into those of a piece and those behind it.
-- Assumes nothing.
use mathlib.Core.Path.{◌≡◌, refl, sym, ap, ◌∙◌}
use mathlib.Core.Logic.{◌⊎◌, inl, inr}
use mathlib.Core.Bool.{Bool, true, false, not, ◌&&◌, ◌||◌}
use mathlib.Core.List.{List, [], ◌∷◌, ◌++◌}
use Prim.Native.Nat.{ℕ, ◌+◌, ◌-◌, ◌≤◌, ◌<◌}
use native.Mathlib.Omega.{arith}
use lib.Dec.{eqb, leb, ltb}
use lib.ListN.{length, take, drop, get_or, length-append, length-drop, get_or-append}
use lib.Seq.{get_or-take, get_or-drop, get_or-append-add, length-take-le, ext_get_or}
use borrow.Author.Tests.{eqb-true, not-true, lt-leb, le-ltb}
use Rattle.events.specs.Events.{body_line, sized_body, user, password}
use Rattle.events.specs.declared.Event.{Event}
use Rattle.reading.proofs.Places.{by_test}
use Rattle.reading.proofs.Words.{both_true}
use Rattle.rules.specs.Secrecy.{inside, may_turn, may, Replaced}

-- ---- tests
and_left : (a b : Bool) → a ≡ false → (a && b) ≡ false
and_left a b h = rw h

and_right : (a b : Bool) → b ≡ false → (a && b) ≡ false
and_right true b h = h
and_right false b h = refl

pub apart : true ≡ false → ⊥
apart h = let z : ◌≡◌ {A = ℕ} 0 1 = cc in omega arith

or_none : (a b d : Bool) → (a || d) ≡ false → ((a && b) || d) ≡ false
or_none true b d h = absurd (apart h)
or_none false b d h = h

-- ---- which events allow a change, and where they lie
unfoldable pub secret : ℕ → Bool
secret k = (eqb k user || (eqb k password || eqb k body_line)) || eqb k sized_body

no_turn : (k b c : ℕ) → secret k ≡ false → may_turn k b c ≡ false
unfolding may_turn secret
no_turn k b c h = or_none (eqb k user || (eqb k password || eqb k body_line)) _ (eqb k sized_body) h

-- an event that allows a change lies between lo and hi
pub record Lies (lo hi : ℕ) (e : Event) : Type 0 where
  pub from : secret e.kind ≡ true → lo ≤ e.offset
  pub to : secret e.kind ≡ true → e.offset + e.length ≤ hi

unfoldable pub AllLie : ℕ → ℕ → List Event → Type 0
AllLie lo hi [] = Unit {0}
AllLie lo hi (e ∷ es) = Lies lo hi e × AllLie lo hi es

pub all_lie_append : (lo mid hi : ℕ) (es fs : List Event) → lo ≤ mid → mid ≤ hi → AllLie lo mid es → AllLie mid hi fs → AllLie lo hi (es ++ fs)
unfolding AllLie
all_lie_append lo mid hi [] [] h g a b = tt
all_lie_append lo mid hi [] (f ∷ fs) h g a b =
    (record { from = λ t. omega (arith, b.0.from t); to = b.0.to }, all_lie_append lo mid hi [] fs h g tt b.1)
all_lie_append lo mid hi (e ∷ es) fs h g a b =
    (record { from = a.0.from; to = λ t. omega (arith, a.0.to t) }, all_lie_append lo mid hi es fs h g a.1 b)

-- beside where it lies an event allows nothing
outside : (lo hi : ℕ) (e : Event) (p : ℕ) → lo ≤ e.offset → e.offset + e.length ≤ hi → (p < lo) ⊎ (hi ≤ p) → inside e p ≡ false
unfolding inside
outside lo hi e p f g (inl h) = and_left (leb e.offset p) (ltb p (e.offset + e.length)) (lt-leb e.offset p (omega arith))
outside lo hi e p f g (inr h) = and_right (leb e.offset p) (ltb p (e.offset + e.length)) (le-ltb p (e.offset + e.length) (omega arith))

shut : (lo hi : ℕ) (e : Event) (p b c : ℕ) → Lies lo hi e → (p < lo) ⊎ (hi ≤ p) → (inside e p && may_turn e.kind b c) ≡ false
shut lo hi e p b c l w =
    by_test (secret e.kind)
    (λ t. and_left (inside e p) (may_turn e.kind b c) (outside lo hi e p (l.from t) (l.to t) w))
    (λ f. and_right (inside e p) (may_turn e.kind b c) (no_turn e.kind b c f))

beside : (lo hi : ℕ) (es : List Event) (p b c : ℕ) → AllLie lo hi es → (p < lo) ⊎ (hi ≤ p) → may es p b c ≡ eqb b c
unfolding AllLie may
beside lo hi [] p b c l w = refl
beside lo hi (e ∷ es) p b c l w = rw (shut lo hi e p b c l.0 w) (beside lo hi es p b c l.1 w)

may_left : (lo hi : ℕ) (es fs : List Event) (p b c : ℕ) → AllLie lo hi fs → p < lo → may (es ++ fs) p b c ≡ may es p b c
unfolding may
may_left lo hi [] fs p b c l h = beside lo hi fs p b c l (inl h)
may_left lo hi (e ∷ es) fs p b c l h = ap (λ (x : Bool). (inside e p && may_turn e.kind b c) || x) (may_left lo hi es fs p b c l h)

may_right : (lo hi : ℕ) (es fs : List Event) (p b c : ℕ) → AllLie lo hi es → hi ≤ p → may (es ++ fs) p b c ≡ may fs p b c
unfolding AllLie may
may_right lo hi [] fs p b c l h = refl
may_right lo hi (e ∷ es) fs p b c l h = rw (shut lo hi e p b c l.0 (inr h)) (may_right lo hi es fs p b c l.1 h)

-- ---- changes of a piece and of what lies behind it
module _ (es fs : List Event) (at hi : ℕ) (p r u : List ℕ) (w : Replaced (es ++ fs) at (p ++ r) u) (l : AllLie at (at + length p) es) (m : AllLie (at + length p) hi fs) where
  long : length u ≡ length p + length r
  long = w.long ∙ length-append p r

  pub changed_piece : Replaced es at p (take (length p) u)
  changed_piece = record {
    long = length-take-le (length p) u (omega (arith, long));
    bytes = λ i h.
        rw (get_or-take (length p) u i 0 h, ← (get_or-append p r 0 i h), ← (may_left (at + length p) hi es fs (at + i) (get_or (p ++ r) i 0) (get_or u i 0) m (omega arith)))
        (w.bytes i (omega (arith, length-append p r)));
  }

  pub changed_rest : Replaced fs (at + length p) r (drop (length p) u)
  changed_rest = record {
    long = length-drop (length p) u ∙ (let z : length u - length p ≡ length r = omega (arith, long) in z);
    bytes = λ i h.
        let z : at + length p + i ≡ at + (length p + i) = omega arith in
        rw (
          z,
          get_or-drop (length p) u i 0,
          ← (get_or-append-add p r i 0),
          ← (may_right at (at + length p) es fs (at + (length p + i)) (get_or (p ++ r) (length p + i) 0) (get_or u (length p + i) 0) l (omega arith)),
        )
        (w.bytes (length p + i) (omega (arith, length-append p r)));
  }

-- ---- events that allow nothing
unfoldable pub still : List Event → Bool
still [] = true
still (e ∷ es) = not (secret e.kind) && still es

pub still_lies : (lo hi : ℕ) (es : List Event) → still es ≡ true → AllLie lo hi es
unfolding still AllLie
still_lies lo hi [] h = tt
still_lies lo hi (e ∷ es) h =
    let b = both_true (not (secret e.kind)) (still es) h in
    let f : secret e.kind ≡ false = not-true _ b.0 in
    (record { from = λ t. absurd (apart (sym t ∙ f)); to = λ t. absurd (apart (sym t ∙ f)) }, still_lies lo hi es b.1)

pub unchanged : (es : List Event) (at : ℕ) (s u : List ℕ) → still es ≡ true → Replaced es at s u → u ≡ s
unchanged es at s u h w =
    ext_get_or 0 u s w.long
    (λ i g.
    sym
    (eqb-true (get_or s i 0) (get_or u i 0)
    (sym (beside (at + i + 1) 0 es (at + i) (get_or s i 0) (get_or u i 0) (still_lies (at + i + 1) 0 es h) (inl (omega arith))) ∙ w.bytes i (omega (arith, w.long)))))
