-- A read that is taken in pieces comes to what it comes to at once: over any such read, by lines, by bytes or otherwise.
-- Assumes nothing.
use mathlib.Core.Path.{◌≡◌, refl, sym, ap, ◌∙◌}
use mathlib.Core.Bool.{Bool, true, false, cond}
use mathlib.Core.List.{List, ◌++◌}
use Prim.Native.Nat.{ℕ, zero, suc, ◌+◌, ◌<◌}
use native.Mathlib.Omega.{arith}
use lib.ListN.{length, drop, length-append}
use lib.Seq.{drop_at, drop-drop}
use Rattle.reading.specs.Reading.{Got, got, short}
use Rattle.rules.proofs.Machines as machine
use Rattle.rules.proofs.Machines.{Reads}
use Rattle.rules.specs.Machine.{Reaction, stay, before}
use Rattle.rules.specs.Phases.{State}
use Rattle.rules.specs.declared.Settings.{Settings}
use Rattle.windows.specs.Stands.{Stand, enter, entered, goes_on, takes, does, pieces}

-- a piece before what is read behind it
unfoldable pub onto : List ℕ → Got → Got
onto l (got p r) = got (l ++ p) r
onto l short = short

-- `whole` reads at once what `piece` reads one after another; u is what is known between the pieces
pub record Piecemeal {U : Type 0} (piece : U → List ℕ → Got) (last : U → List ℕ → Bool) (next : U → List ℕ → U) (whole : U → List ℕ → Got) : Type 0 where
  pub ends : (u : U) (s p r : List ℕ) → piece u s ≡ got p r → last u p ≡ true → whole u s ≡ got p r
  pub on : (u : U) (s p r : List ℕ) → piece u s ≡ got p r → last u p ≡ false → whole u s ≡ onto p (whole (next u p) r)
  pub waits : (u : U) (s : List ℕ) → piece u s ≡ short → whole u s ≡ short

module _ (set : Settings) where
  -- the stands of such a read, which ends with `end` of the place behind it
  pub record Under {U : Type 0} (piece : U → List ℕ → Got) (last : U → List ℕ → Bool) (next : U → List ℕ → U) (f : U → Stand) (end : ℕ → Reaction State) : Type 0 where
    pub takes : (u : U) (s : List ℕ) → takes (f u) s ≡ piece u s
    pub does : (u : U) (at : ℕ) (l : List ℕ) → does set (f u) at l ≡ cond (last u l) (entered (end (at + length l)) (at + length l)) (goes_on (f (next u l)))

  -- a read under way has come to a piece that needs more
  pub record Waiting {U : Type 0} (f : U → Stand) (u : U) (at : ℕ) (s : List ℕ) : Type 0 where
    pub known : U
    pub far : ℕ
    pub is : pieces set (f u) at s ≡ stay (f known) (at + far) (drop far s)

  module _ (law : Reads Stand takes) {U : Type 0} {piece : U → List ℕ → Got} {last : U → List ℕ → Bool} {next : U → List ℕ → U} {whole : U → List ℕ → Got}
      (P : Piecemeal piece last next whole) {f : U → Stand} {end : ℕ → Reaction State} (under : Under piece last next f end) where
    -- what the read comes to: its end, and what follows; or it waits
    unfoldable pub Comes : U → ℕ → List ℕ → Got → Type 0
    Comes u at s (got p r) =
        pieces set (f u) at s ≡ before (end (at + length p)).events (pieces set (enter (end (at + length p)).next (at + length p)) (at + length p) r)
    Comes u at s short = Waiting f u at s

    -- one piece, and then what it does
    turned : (u : U) (at : ℕ) (s p r : List ℕ) (re : Reaction Stand) → piece u s ≡ got p r → does set (f u) at p ≡ re
        → pieces set (f u) at s ≡ before re.events (pieces set re.next (at + length p) r)
    turned u at s p r re e d =
        machine.run_got Stand takes (does set) law (f u) at s p r (under.takes u s ∙ e)
        ∙ ap (λ (x : Reaction Stand). before x.events (pieces set x.next (at + length p) r)) d

    at_last : (u : U) (at : ℕ) (s p r : List ℕ) → piece u s ≡ got p r → last u p ≡ true → Comes u at s (whole u s)
    unfolding Comes
    at_last u at s p r e h = rw (P.ends u s p r e h) (turned u at s p r (entered (end (at + length p)) (at + length p)) e (under.does u at p ∙ rw h))

    going_on : (u : U) (at : ℕ) (s p r : List ℕ) → piece u s ≡ got p r → last u p ≡ false → (g : Got) → Comes (next u p) (at + length p) r g → Comes u at s (onto p g)
    unfolding Comes onto
    going_on u at s p r e h (got q rest) i =
        let n : at + length (p ++ q) ≡ at + length p + length q = omega (arith, length-append p q) in
        rw n (turned u at s p r (goes_on (f (next u p))) e (under.does u at p ∙ rw h) ∙ i)
    going_on u at s p r e h short i =
        let s-is : s ≡ p ++ r = law.splits (f u) s p r (under.takes u s ∙ e) in
        let n : at + (length p + i.far) ≡ at + length p + i.far = omega arith in
        let d : drop (length p + i.far) s ≡ drop i.far r =
        sym (drop-drop i.far (length p) s) ∙ ap (drop i.far) (ap (drop (length p)) s-is ∙ drop_at p r (length p) refl) in
        record {
          known = i.known;
          far = length p + i.far;
          is = rw (n, d) (turned u at s p r (goes_on (f (next u p))) e (under.does u at p ∙ rw h) ∙ i.is);
        }

    by_piece : (u : U) (at : ℕ) (s : List ℕ) → ((v : U) (to : ℕ) (r : List ℕ) → length r < length s → Comes v to r (whole v r))
        → (g : Got) → piece u s ≡ g → Comes u at s (whole u s)
    unfolding Comes
    by_piece u at s ih short e =
        let z : at + 0 ≡ at = omega arith in
        rw (P.waits u s e) (record { known = u; far = 0; is = rw z (machine.run_short Stand takes (does set) law (f u) at s (under.takes u s ∙ e)) })
    by_piece u at s ih (got p r) e = by_last (last u p) refl
      where
        by_last : (b : Bool) → last u p ≡ b → Comes u at s (whole u s)
        by_last true h = at_last u at s p r e h
        by_last false h =
            rw (P.on u s p r e h) (going_on u at s p r e h (whole (next u p) r)
            (ih (next u p) (at + length p) r (machine.shorter Stand takes (does set) law (f u) s p r (under.takes u s ∙ e))))

    upto : (n : ℕ) (u : U) (at : ℕ) (s : List ℕ) → length s < n → Comes u at s (whole u s)
    upto zero u at s h = absurd (omega arith)
    upto (suc n) u at s h = by_piece u at s (λ v to r i. upto n v to r (omega arith)) (piece u s) refl

    -- taken in pieces, it comes to what `whole` reads
    pub comes : (u : U) (at : ℕ) (s : List ℕ) → Comes u at s (whole u s)
    comes u at s = upto (suc (length s)) u at s (omega arith)
