-- Demand 1 by windows: what windows leave alone of the table, and that their events have slots.
-- Assumes nothing.
use mathlib.Core.Path.{◌≡◌, refl, sym, ap, ◌∙◌}
use mathlib.Core.List.{List, [], ◌∷◌, ◌++◌}
use Prim.Native.Nat.{ℕ, ◌+◌, ◌-◌, ◌*◌, ◌/◌, ◌≤◌}
use native.Mathlib.Omega.{arith}
use lib.Dec.{ltb}
use lib.ListN.{length, take, drop}
use lib.Seq.{drop-drop}
use Rattle.events.proofs.Laws.{Keeps, keeps, pour_room}
use Rattle.events.specs.Events.{width}
use Rattle.events.specs.Table.{Final, Poured, all, full, slots, pour, finish}
use Rattle.events.specs.declared.Outcome.TheVariants.{Incomplete}
use Rattle.reading.proofs.Places.{by_test}
use Rattle.rules.specs.Machine.{Ran}
use Rattle.rules.specs.Sessions.{limit}
use Rattle.rules.specs.declared.Settings.{Settings}
use Rattle.windows.specs.Stands.{Stand, pieces}
use Rattle.windows.specs.Windows.{Record, said, over, Shown, refused, landed, lands, window, Tap, shows, shows_all, lastly}

-- ---- what is said after a window has the table and the count of what was poured, whatever the result
same_table : (t : List ℕ) (n : ℕ) (f g : Final) → f.table ≡ g.table → f.count ≡ g.count → Keeps t n g → Keeps t n f
same_table t n f g a b k =
    record {
      grown = rw b k.grown;
      front = λ j h. rw a (k.front j h);
      behind = rw (a, b) k.behind;
      long = rw a k.long;
    }

-- of the table and the count of one pour
abbrev poured : Poured → Final
poured x = finish x Incomplete 0

landed_table : (base : ℕ) (o : Ran Stand) (x : Poured) → (landed base o x).table ≡ (poured x).table
unfolding landed refused finish
landed_table base o (all u log) = refl
landed_table base o (full u q log) = refl

landed_count : (base : ℕ) (o : Ran Stand) (x : Poured) → (landed base o x).next.log.count ≡ (poured x).count
unfolding landed refused finish
landed_count base o (all u log) = refl
landed_count base o (full u q log) = refl

keeps_none : (t : List ℕ) (n : ℕ) (f : Final) → f.table ≡ t → f.count ≡ n → Keeps t n f
keeps_none t n f a b = record { grown = omega arith; front = λ j h. ap (take j) a; behind = ap (drop (f.count * width)) a; long = ap length a }

-- ---- a window leaves alone the numbers of the events before it, those past the count, and the table's length
module _ (set : Settings) (r : Record) (t w : List ℕ) where
  abbrev o : Ran Stand
  o = pieces set r.stand r.at w

  abbrev after : Shown → Final
  after g = said g.next g.table

  pub window_keeps : Keeps t r.log.count (after (window set r t w))
  unfolding window lands said refused
  window_keeps =
      by_test (over r.stand)
      (λ h. rw h (keeps_none t r.log.count (said r t) refl refl))
      (λ h.
      by_test (ltb limit (r.at + length w))
      (λ l. rw (h, l) (keeps_none t r.log.count (after (refused r.at t _ 0 r.log)) refl refl))
      (λ l.
      rw (h, l) (same_table t r.log.count (after (landed r.at o (pour o.events t r.log))) (poured (pour o.events t r.log))
      (landed_table r.at o (pour o.events t r.log)) (landed_count r.at o (pour o.events t r.log)) (keeps o.events t r.log Incomplete 0))))

  -- and every event that it counts has a slot
  pub window_room : r.log.count ≤ slots t → (after (window set r t w)).count ≤ slots t
  unfolding window lands said refused
  window_room e =
      by_test (over r.stand)
      (λ h. rw h e)
      (λ h.
      by_test (ltb limit (r.at + length w))
      (λ l. rw (h, l) e)
      (λ l. rw (h, l, landed_count r.at o (pour o.events t r.log)) (pour_room o.events t r.log Incomplete 0 e)))

-- ---- windows one after another
keeps_on : {t : List ℕ} {n : ℕ} {f h : Final} → Keeps t n f → Keeps f.table f.count h → Keeps t n h
keeps_on {t} {n} {f} {h} a b =
    let z : h.count * width ≡ f.count * width + (h.count * width - f.count * width) = omega (arith, b.grown) in
    let d : (l : List ℕ) → drop (h.count * width) l ≡ drop (h.count * width - f.count * width) (drop (f.count * width) l) =
    λ l. ap (λ (k : ℕ). drop k l) z ∙ sym (drop-drop (h.count * width - f.count * width) (f.count * width) l) in
    record {
      grown = omega (arith, a.grown, b.grown);
      front = λ j g. b.front j (omega (arith, a.grown)) ∙ a.front j g;
      behind = b.behind ∙ d f.table ∙ ap (drop (h.count * width - f.count * width)) a.behind ∙ sym (d t);
      long = b.long ∙ a.long;
    }

-- any number of windows leaves alone the numbers of the events before them, those past the count, and the table's length
pub keeps_all : (x : Tap) (ws : List (List ℕ)) → Keeps x.table x.session.log.count (lastly (shows_all x ws))
unfolding shows_all shows said
keeps_all x [] = keeps_none x.table x.session.log.count (lastly x) refl refl
keeps_all x (w ∷ ws) = keeps_on (window_keeps x.settings x.session x.table (x.untaken ++ w)) (keeps_all (shows x w) ws)

-- and every event that they count has a slot
pub room_all : (x : Tap) (ws : List (List ℕ)) → x.session.log.count ≤ slots x.table → (lastly (shows_all x ws)).count ≤ slots x.table
unfolding shows_all shows said
room_all x [] h = h
room_all x (w ∷ ws) h =
    let v : List ℕ = x.untaken ++ w in
    let s : slots (shows x w).table ≡ slots x.table = ap (λ (m : ℕ). m / width) (window_keeps x.settings x.session x.table v).long in
    rw s at (room_all (shows x w) ws (rw s (window_room x.settings x.session x.table v h)))
