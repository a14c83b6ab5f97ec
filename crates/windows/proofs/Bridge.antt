-- A session that is taken in pieces comes to what document 01's comes to, where no boundary is too long; and where one is, up to there.
-- Assumes nothing.
use mathlib.Core.Path.{◌≡◌, refl, sym, ap, ◌∙◌}
use mathlib.Core.List.{List, ◌++◌, append_assoc}
use Prim.Native.Nat.{ℕ, zero, suc, ◌+◌, ◌<◌}
use native.Mathlib.Omega.{arith}
use lib.ListN.{length}
use Rattle.events.specs.declared.Event.{Event}
use Rattle.events.specs.declared.Outcome.{Outcome}
use Rattle.events.specs.declared.Outcome.TheVariants.{LongBoundary}
use Rattle.reading.specs.Reading.{Got, got, short, reach, parted, fetch}
use Rattle.rules.proofs.Machines.{session_shorter}
use Rattle.rules.proofs.Strict.{with_short, with_got}
use Rattle.rules.specs.Machine.{Ran, stay}
use Rattle.rules.specs.Phases.{State, ends, need}
use Rattle.rules.specs.Sessions.{result_of, place_of}
use Rattle.rules.specs.Strict.{react_with, session_with}
use Rattle.rules.specs.declared.Settings.{Settings}
use Rattle.windows.proofs.Courses.{Follows, Course, follows, too_long, course, pieces_short}
use Rattle.windows.specs.Stands.{Stand, fresh, enter, takes, pieces, stand_result, stand_place}

-- ---- what is told of a run
pub record Told : Type 0 where
  pub events : List Event
  pub result : Outcome
  pub place : ℕ

abbrev pub told : Ran State → Told
told o = record { events = o.events; result = result_of o.state; place = place_of o.state o.at }

abbrev pub told_stand : Ran Stand → Told
told_stand o = record { events = o.events; result = stand_result o.state; place = stand_place o.state o.at }

abbrev after : List Event → Told → Told
after es x = record { events = es ++ x.events; result = x.result; place = x.place }

-- x is y; or x is 12, and its events are the first of y's
pub data Agrees (x y : Told) : Type 0 where
  alike : x ≡ y → Agrees x y
  longer : x.result ≡ LongBoundary → (more : List Event) → y.events ≡ x.events ++ more → Agrees x y

via : {x x' y' y : Told} → x ≡ x' → Agrees x' y' → y' ≡ y → Agrees x y
via e (alike h) f = alike (e ∙ h ∙ f)
via e (longer h more g) f =
    longer (ap (λ (z : Told). z.result) e ∙ h) more (sym (ap (λ (z : Told). z.events) f) ∙ g ∙ ap (λ (z : Told). z.events ++ more) (sym e))

behind : (es : List Event) {x y : Told} → Agrees x y → Agrees (after es x) (after es y)
behind es (alike h) = alike (ap (after es) h)
behind es {x} (longer h more g) = longer h more (ap (λ (l : List Event). es ++ l) g ∙ sym (append_assoc es x.events more))

module _ (set : Settings) where
  -- ---- one read, and what follows it
  abbrev Same : ℕ → Type 0
  Same m = (st : State) (at : ℕ) (s : List ℕ) → length s < m → Agrees (told_stand (pieces set (enter st at) at s)) (told (session_with set st at s))

  module _ (st : State) (at : ℕ) (s : List ℕ) (ih : Same (length s)) where
    by_piece : (g : Got) → fetch (need st) s ≡ g → Follows set st at s g → Agrees (told_stand (pieces set (enter st at) at s)) (told (session_with set st at s))
    unfolding Follows
    by_piece short e w =
        let o : told_stand (pieces set (enter st at) at s) ≡ told (stay st at s) = ap told_stand w.is ∙ rw (w.result, w.place) in
        alike (o ∙ ap told (sym (with_short set st at s e)))
    by_piece (got p r) e w =
        via (ap told_stand w) (behind (react_with set st at p).events (ih (react_with set st at p).next (at + length p) r (session_shorter st s p r e)))
        (ap told (sym (with_got set st at s p r e)))

    by_course : Course set st at → Agrees (told_stand (pieces set (enter st at) at s)) (told (session_with set st at s))
    unfolding stand_result result_of takes need fetch reach parted
    by_course (follows w) = by_piece (fetch (need st) s) refl (w s)
    by_course (too_long e) =
        let f = fresh (ends LongBoundary at) in
        let o : pieces set (enter st at) at s ≡ stay f at s = ap (λ (g : Stand). pieces set g at s) e ∙ pieces_short set f at s refl in
        longer (ap (λ (o : Ran Stand). stand_result o.state) o) (session_with set st at s).events (ap (λ (o : Ran Stand). o.events ++ (session_with set st at s).events) (sym o))

  upto : (m : ℕ) → Same m
  upto zero st at s h = absurd (omega arith)
  upto (suc m) st at s h = by_course st at s (λ su a t i. upto m su a t (omega arith)) (course set st at)

  pub bridge : (st : State) (at : ℕ) (s : List ℕ) → Agrees (told_stand (pieces set (enter st at) at s)) (told (session_with set st at s))
  bridge st at s = upto (suc (length s)) st at s (omega arith)
