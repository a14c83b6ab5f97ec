-- Texts at the front of a buffer, and what is said of a record by its tests.
-- Assumes nothing.
use mathlib.Core.Path.{◌≡◌, refl}
use mathlib.Core.Bool.{true, false}
use mathlib.Core.List.{List}
use Prim.Native.Nat.{ℕ, ◌*◌, ◌-◌, ◌/◌, ◌≤◌, ◌<◌}
use native.Mathlib.Omega.{arith}
use lib.ListN.{length, drop, replicate}
use borrow.Author.Tests.{lt-ltb, le-ltb, eq-eqb, ne_eqb}
use Rattle.std.specs.Prelude.{Some, None, Result, Ok, Err}
use Rattle.cases.specs.Cases.{guess_of, lent, pattern, only}
use Rattle.cases.specs.declared.Ending.{Ending}
use Rattle.cases.specs.declared.Ending.TheVariants.{Large, Broken, Touched}
use Rattle.letters.specs.Letters.{entry_of}
use Rattle.rules.specs.Sessions.{answer_of}
use Rattle.rules.specs.declared.Entry.{Entry}
use Rattle.events.specs.Table.{Final}
use Rattle.listing.proofs.Lines.{listing_length}
use Rattle.listing.proofs.Pasted.{pasted_length}
use Rattle.listing.proofs.Spelled.{word_length}
use Rattle.listing.specs.Listing.{Pasted, word, listing}
use Rattle.batch.specs.Batch.{Shows, ShowsOne, guess_said, listed, lent_said, session_said, said_of}

case_shown : {o t u : List ℕ} {r : ℕ} → Pasted o 0 t r u → length t ≤ length o → Shows o (Ok t) (Ok r) u
case_shown p h = (p, omega (arith, p.end, pasted_length p (omega arith)))

-- a text that is shown lies in the buffer
said_within : (o u : List ℕ) {n : ℕ} (x : Result (List ℕ) Ending) → Shows o x (Ok n) u → n ≤ length u
said_within o u (Ok t) w = w.1
said_within o u (Err e) w = absurd w

pub within : {can : Result (List ℕ) Ending → Type 0} {o u : List ℕ} {n : ℕ} → ShowsOne can o (Ok n) u → n ≤ length u
within {o = o} {u = u} w = said_within o u w.said w.shows

-- ---- an answer
module _ (o u : List ℕ) (f : Final) where
  pub large_listed : (length o - 63) / 84 < f.count → u ≡ o → Shows o (listed (length o) f) (Err Large) u
  unfolding listed
  large_listed h e = rw (lt-ltb _ _ h) (refl, e)

  module _ (h : f.count ≤ (length o - 63) / 84) where
    pub touched_listed : only pattern (drop (4 * f.count) f.table) ≡ false → u ≡ o → Shows o (listed (length o) f) (Err Touched) u
    unfolding listed
    touched_listed e same = rw (le-ltb _ _ h, e) (refl, same)

    pub case_listed : {r : ℕ} → only pattern (drop (4 * f.count) f.table) ≡ true → 64 ≤ length o → Pasted o 0 (listing f) r u → Shows o (listed (length o) f) (Ok r) u
    unfolding listed
    case_listed e room p = rw (le-ltb _ _ h, e) (case_shown p (omega (arith, listing_length f)))

-- ---- a record
module _ (o u : List ℕ) (letter slots numbers : ℕ) (s : List ℕ) where
  module _ (d : letter ≡ 68) where
    pub broken_guess : guess_of s ≡ None → u ≡ o → Shows o (said_of letter slots numbers (length o) s) (Err Broken) u
    unfolding said_of guess_said
    broken_guess e same = rw (eq-eqb _ _ d, e) (refl, same)

    pub number_guess : {n r : ℕ} → guess_of s ≡ Some n → 64 ≤ length o → Pasted o 0 (word n 10) r u → Shows o (said_of letter slots numbers (length o) s) (Ok r) u
    unfolding said_of guess_said
    number_guess {n} e room p = rw (eq-eqb _ _ d, e) (case_shown p (omega (arith, word_length n 10)))

  module _ (d : letter ≡ 68 → ⊥) where
    pub other_letter : entry_of letter ≡ None → u ≡ o → Shows o (said_of letter slots numbers (length o) s) (Err Broken) u
    unfolding said_of session_said
    other_letter e same = rw (ne_eqb _ _ d, e) (refl, same)

    module _ {e : Entry} (k : entry_of letter ≡ Some e) where
      pub large_table : lent numbers slots (length s) ≡ None → u ≡ o → Shows o (said_of letter slots numbers (length o) s) (Err Large) u
      unfolding said_of session_said lent_said
      large_table l same = rw (ne_eqb _ _ d, k, l) (refl, same)

      pub session_shown : (r : Result ℕ Ending) {f : Final} {n : ℕ} → lent numbers slots (length s) ≡ Some n → f ≡ answer_of e (replicate n pattern) s
          → Shows o (listed (length o) f) r u → Shows o (said_of letter slots numbers (length o) s) r u
      unfolding said_of session_said lent_said
      session_shown r l a w = rw (ne_eqb _ _ d, k, l, ← a) w
