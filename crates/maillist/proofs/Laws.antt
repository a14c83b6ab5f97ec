-- What is printed, by what the input holds.
-- Assumes nothing.
use mathlib.Core.Path.{◌≡◌, refl, sym, ap, ◌∙◌, subst}
use mathlib.Core.List.{List, [], ◌∷◌, ◌++◌, append-nil}
use Prim.Native.Nat.{ℕ, zero, suc, ◌*◌, ◌≤◌, ◌<◌}
use native.Mathlib.Omega.{arith}
use lib.Dec.{ltb}
use lib.ListN.{length, take, drop, get_or, replicate, length-replicate, length-append}
use lib.Seq.{length-take-le, take-paste, take-length}
use borrow.Author.Tests.{lt-ltb, le-ltb, ltb-true, ltb-false}
use Rattle.std.proofs.Common.{None, Some, IfSome, OnOk, Ok, Err, Result, Option}
use Rattle.std.specs.Io.KnownBytes.{Appends, Consumes, IsAtEnd}
use Rattle.reading.proofs.Places.{by_test}
use Rattle.letters.specs.Letters.{entry_of}
use Rattle.rules.specs.Sessions.{answer_of}
use Rattle.rules.specs.declared.Entry.{Entry}
use Rattle.events.specs.Table.{Final}
use Rattle.listing.proofs.Lines.{listing_length}
use Rattle.listing.proofs.Pasted.{pasted_length}
use Rattle.listing.specs.Listing.{Pasted, listing}
use Rattle.reading.specs.Text.{text}
use Rattle.maillist.specs.Maillist.{Prints, printed, by_letter, listed}

prints : {o t u : List ℕ} {r : ℕ} → Pasted o 0 t r u → length t ≤ length o → Prints o t r u
prints {o} {t} {u} {r} p h = record { puts = p; within = omega (arith, p.end, pasted_length p (omega arith)) }

-- the bytes that are printed stand at the front
pub printed_bytes : {o t u : List ℕ} {r : ℕ} → Prints o t r u → take r u ≡ t
printed_bytes {o} {t} {u} {r} p =
    rw (p.puts.end, p.puts.is) (take-paste o 0 t (length t) (omega arith) (omega arith) ∙ take-length t)

-- ---- a session
take_replicate : (n m : ℕ) → n ≤ m → take n (replicate {A = ℕ} m 0) ≡ replicate n 0
take_replicate zero m h = refl
take_replicate (suc n) zero h = absurd (omega arith)
take_replicate (suc n) (suc m) h = ap (◌∷◌ 0) (take_replicate n m (omega arith))

pub long_printed : {o u : List ℕ} {r : ℕ} (e : Entry) (s : List ℕ) → 3072 < length s → 258111 ≤ length o → Pasted o 0 (text "long\n") r u → Prints o (listed e s) r u
unfolding listed
long_printed e s l room p = rw (lt-ltb 3072 (length s) l) (prints p (omega arith))

module _ {z : List ℕ} (m : ℕ) (is : z ≡ replicate m 0) where
  pub zeros_length : length z ≡ m
  zeros_length = ap length is ∙ length-replicate m 0

  pub few_events : (s t : List ℕ) (n : ℕ) → length s ≤ 3072 → 4 * length s ≤ m → 4 * n ≤ length t → length t ≡ length (take (4 * length s) z) → n ≤ 3072
  few_events s t n l w h k = omega (arith, length-take-le (4 * length s) z (omega (arith, zeros_length)))

  module _ (e : Entry) (s : List ℕ) (l : length s ≤ 3072) (w : 4 * length s ≤ m) where
    listed_is : listed e s ≡ listing (answer_of e (take (4 * length s) z) s)
    unfolding listed
    listed_is = rw (le-ltb 3072 (length s) l, is, take_replicate (4 * length s) m w)

    pub session_printed : {o u : List ℕ} {r : ℕ} (f : Final) → 258111 ≤ length o → f ≡ answer_of e (take (4 * length s) z) s → f.count ≤ 3072
        → Pasted o 0 (listing f) r u → Prints o (listed e s) r u
    session_printed f room a c p = rw (listed_is ∙ ap listing (sym a)) (prints p (omega (arith, listing_length f)))

-- ---- an input
pub none_printed : {o u : List ℕ} {r : ℕ} (l : List ℕ) → length l ≡ 0 → 258111 ≤ length o → Pasted o 0 (text "bad\n") r u → Prints o (printed l) r u
unfolding printed
none_printed [] h room p = prints p (omega arith)
none_printed (b ∷ l) h room p = absurd (omega arith)

some_printed : (l : List ℕ) → (length l ≡ 0 → ⊥) → printed l ≡ by_letter (entry_of (get_or l 0 0)) (drop 1 l)
unfolding printed
some_printed [] h = absurd (h refl)
some_printed (b ∷ l) h = refl

module _ {o u : List ℕ} {r : ℕ} (l : List ℕ) (h : length l ≡ 0 → ⊥) where
  pub bad_printed : entry_of (get_or l 0 0) ≡ None → 258111 ≤ length o → Pasted o 0 (text "bad\n") r u → Prints o (printed l) r u
  unfolding by_letter
  bad_printed e room p = rw (some_printed l h, e) (prints p (omega arith))

  pub entry_printed : (e : Entry) → entry_of (get_or l 0 0) ≡ Some e → Prints o (listed e (drop 1 l)) r u → Prints o (printed l) r u
  unfolding by_letter
  entry_printed e w p = rw (some_printed l h, w) p

-- ---- an input that was read as far as there is room: bytes behind these change nothing
by_letter_long : (l : Option Entry) (s t : List ℕ) → 3072 < length s → 3072 < length t → by_letter l s ≡ by_letter l t
unfolding by_letter listed
by_letter_long (Some e) s t h k = rw (lt-ltb 3072 (length s) h, lt-ltb 3072 (length t) k)
by_letter_long None s t h k = refl

long_same : (l m : List ℕ) → 3074 ≤ length l → printed (l ++ m) ≡ printed l
unfolding printed
long_same [] m h = absurd (omega arith)
long_same (b ∷ l) m h = by_letter_long (entry_of b) (l ++ m) l (omega (arith, length-append l m)) (omega arith)

front_printed : (l f m : List ℕ) → l ≡ f ++ m → (length f < 3074 → m ≡ []) → printed l ≡ printed f
front_printed l f m e h =
    by_test (ltb (length f) 3074) (λ t. ap printed (e ∙ ap (◌++◌ f) (h (ltb-true (length f) 3074 t)) ∙ append-nil f))
    (λ t. ap printed e ∙ long_same f m (ltb-false (length f) 3074 t))

-- n bytes were taken, and where there are fewer than the buffer holds, no byte is left
abbrev Taken : ℕ → Option (List ℕ) → Option (List ℕ) → List ℕ → Type 0
Taken n a b u = Consumes a b (take n u) × (n < length u → IsAtEnd b)

read_printed : (a b : Option (List ℕ)) (n : ℕ) (u : List ℕ) (P : List ℕ → Type 0) → length u ≡ 3074 → n ≤ length u → Taken n a b u
    → P (printed (take n u)) → IfSome a (λ l. P (printed l))
read_printed None b n u P k w h p = tt
read_printed (Some l) None n u P k w h p = absurd h.0
read_printed (Some l) (Some m) n u P k w h p =
    let long : length (take n u) ≡ n = length-take-le n u w in
    subst P (sym (front_printed l (take n u) m h.0 (λ q. h.1 (omega arith)))) p

pub all_printed : {E : Type 0} (a b v x : Option (List ℕ)) (n : ℕ) (u : List ℕ) (r : Result (Unit {0}) E) → length u ≡ 3074 → n ≤ length u → Taken n a b u
    → OnOk r (Appends v x (printed (take n u))) → OnOk r (IfSome a (λ l. Appends v x (printed l)))
all_printed a b v x n u (Ok y) k w h p = read_printed a b n u (Appends v x) k w h p
all_printed a b v x n u (Err e) k w h p = tt
