-- Sessions by windows through C: what is held between two calls is the session.
-- Assumes nothing.
use mathlib.Core.Path.{◌≡◌, refl, subst}
use mathlib.Core.Bool.{true, false}
use mathlib.Core.List.{List}
use Prim.Native.Nat.{ℕ, zero, suc, ◌-◌, ◌≤◌, ◌<◌}
use native.Mathlib.Omega.{arith}
use lib.ListN.{get_or}
use borrow.Author.Tests.{eq-eqb, ne_eqb}
use Rattle.flat.proofs.Flats.{phase_stands, taken_stands, log_stands, settings_stand}
use Rattle.flat.specs.Flats as flat
use Rattle.phases.specs.declared.Phase.{Phase}
use Rattle.rules.specs.declared.Settings.{Settings}
use Rattle.tap.specs.Tapping.{Shows, session_with, shown_with}
use Rattle.tap.specs.declared.Seen.{Seen}
use Rattle.tap.specs.declared.Session.{Session}
use Rattle.mailindex.specs.Exports.{session_of, session_numbers, Holds, unset, shown_of, Showing}

-- what holds a session stands for it
again : (s : Session) → session_of (session_numbers s) s.boundaries ≡ s
again s =
    rw (
      settings_stand s.settings s.phase s.at s.log,
      phase_stands s.settings s.phase s.at s.log,
      taken_stands s.settings s.phase s.at s.log,
      log_stands s.settings s.phase s.at s.log,
    )

pub stands : (s : Session) {ns k : List ℕ} → Holds s ns k → session_of ns k ≡ s
stands s h = rw (h.numbers, h.copies) (again s)

-- so that a window shown to it through C is shown to that session, and what is held then is what `show` made of it
pub shown_to : (s : Session) {ns k w t ns' k' u n : List ℕ} → Holds s ns k → (g : Showing ns k w t ns' k' u n) → Shows s w t g.shown u
shown_to s {w = w} {t = t} {u = u} h g = subst (λ (x : Session). Shows x w t g.shown u) (stands s h) g.shows

-- what the phase read off the numbers is shown, is shown to what they hold
pub showing : {ns k w t u n : List ℕ} {set : Settings} {ph : Phase} {ns' k' : List ℕ} (r : Seen) → set ≡ flat.settings_of ns → ph ≡ flat.phase_of ns
    → Shows (session_with set ph (flat.taken_of ns) (flat.log_of ns) k) w t (shown_with set r k') u → ns' ≡ flat.numbers_of set r.phase r.at r.log
    → n ≡ shown_of r.answer r.taken → Showing ns k w t ns' k' u n
showing {ns} {k} {w} {t} {u} {set = set} {k' = k'} r c e h m a = record {
  shown = shown_with set r k';
  shows =
      subst (λ (x : Settings). Shows (session_with x (flat.phase_of ns) (flat.taken_of ns) (flat.log_of ns) k) w t (shown_with set r k') u) c
      (subst (λ (x : Phase). Shows (session_with set x (flat.taken_of ns) (flat.log_of ns) k) w t (shown_with set r k') u) e h);
  holds = record { numbers = m; copies = refl };
  answer = a;
}

-- ---- choices that are not made, from the last one down
pub unset_step : (cs : List ℕ) (i : ℕ) → 1 < i → get_or cs i 0 ≡ 0 → unset cs i ≡ unset cs (i - 1)
unfolding unset
unset_step cs zero g h = absurd (omega arith)
unset_step cs (suc zero) g h = absurd (omega arith)
unset_step cs (suc (suc i)) g h = let z : suc (suc i) - 1 ≡ suc i = omega arith in rw (z, eq-eqb (get_or cs (suc (suc i)) 0) 0 h)

pub unset_not : (cs : List ℕ) (i : ℕ) → 1 < i → (get_or cs i 0 ≡ 0 → ⊥) → unset cs i ≡ false
unfolding unset
unset_not cs zero g h = absurd (omega arith)
unset_not cs (suc zero) g h = absurd (omega arith)
unset_not cs (suc (suc i)) g h = rw (ne_eqb (get_or cs (suc (suc i)) 0) 0 h)

pub unset_none : (cs : List ℕ) (i : ℕ) → i ≤ 1 → unset cs i ≡ true
unfolding unset
unset_none cs zero h = refl
unset_none cs (suc zero) h = refl
unset_none cs (suc (suc i)) h = absurd (omega arith)
