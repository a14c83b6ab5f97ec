-- Texts put behind each other.
-- Assumes nothing.
use mathlib.Core.Path.{◌≡◌, refl, sym, ap, ◌∙◌}
use mathlib.Core.List.{List, [], ◌∷◌, ◌++◌, append_assoc}
use Prim.Native.Nat.{ℕ, suc, ◌+◌, ◌≤◌, ◌<◌}
use native.Mathlib.Numerals.{add-one}
use native.Mathlib.Omega.{arith}
use lib.ListN.{length, take, drop, set, length-append}
use lib.Seq.{set_split, append_snoc, paste, paste-zero, length-paste, take-paste, drop-paste, drop-drop, take-length}
use Rattle.listing.specs.Listing.{Pasted}

paste_paste : (o : List ℕ) (at : ℕ) (t s : List ℕ) → at ≤ length o
    → paste (paste o at t (length t)) (at + length t) s (length s) ≡ paste o at (t ++ s) (length (t ++ s))
paste_paste o at t s h =
    let far : at + length t + length s ≡ at + length (t ++ s) = omega (arith, length-append t s) in
    let front : take (at + length t) (paste o at t (length t)) ≡ take at o ++ t = take-paste o at t (length t) h (omega arith) ∙ ap (◌++◌ (take at o)) (take-length t) in
    let back : drop (at + length t + length s) (paste o at t (length t)) ≡ drop (at + length (t ++ s)) o =
    sym (drop-drop (length s) (at + length t) (paste o at t (length t)))
    ∙ ap (drop (length s)) (drop-paste o at t (length t) h (omega arith))
    ∙ drop-drop (length s) (at + length t) o
    ∙ ap (λ (k : ℕ). drop k o) far in
    ap (λ (x : List ℕ). x ++ take (length s) s ++ drop (at + length t + length s) (paste o at t (length t))) front
    ∙ ap (λ (x : List ℕ). take at o ++ t ++ x ++ drop (at + length t + length s) (paste o at t (length t))) (take-length s)
    ∙ ap (λ (x : List ℕ). take at o ++ t ++ s ++ x) back
    ∙ ap (λ (x : List ℕ). x ++ drop (at + length (t ++ s)) o) (append_assoc (take at o) t s)
    ∙ ap (λ (x : List ℕ). take at o ++ x ++ drop (at + length (t ++ s)) o) (sym (take-length (t ++ s)))

module _ {o u : List ℕ} {at r : ℕ} {t : List ℕ} (p : Pasted o at t r u) where
  pub pasted_length : at + length t ≤ length o → length u ≡ length o
  pasted_length h = ap length p.is ∙ length-paste o at t (length t) h (omega arith)

  -- n bytes more fit behind it
  pub room_on : (k n : ℕ) → length t ≤ k → at + (k + n) ≤ length o → r + n ≤ length u
  room_on k n h l = omega (arith, p.end, pasted_length (omega arith))

  pub pasted_on : {s : List ℕ} {e : ℕ} {v : List ℕ} → at ≤ length o → Pasted u r s e v → Pasted o at (t ++ s) e v
  pasted_on {s} {e} {v} h q = record {
    end = omega (arith, p.end, q.end, length-append t s);
    is = q.is ∙ rw (p.end, p.is) (paste_paste o at t s h);
  }

pub pasted_none : (o : List ℕ) (at : ℕ) → Pasted o at [] at o
pasted_none o at = record { end = omega arith; is = paste-zero o at [] }

pub pasted_one : (o : List ℕ) (at b : ℕ) → at < length o → Pasted o at (b ∷ []) (at + 1) (set o at b)
pasted_one o at b h = record {
  end = refl;
  is = set_split o at b h ∙ sym (append_snoc (take at o) b (drop (suc at) o)) ∙ ap (λ (k : ℕ). take at o ++ (b ∷ []) ++ drop k o) (sym (add-one at));
}
