-- Demand 3 by windows: bytes replaced where document 01 permits it change no answer to any window, runs cut alike being compared; past the limit and with 12 too.
-- Assumes nothing.
use mathlib.Core.Path.{◌≡◌, refl, sym, ap, ◌∙◌}
use mathlib.Core.Bool.{false}
use mathlib.Core.List.{List, [], ◌∷◌, ◌++◌, append_assoc, flatten}
use Prim.Native.Nat.{ℕ, ◌+◌}
use native.Mathlib.Omega.{arith}
use lib.ListN.{length, take, drop, length-append}
use lib.Seq.{take_at, drop_at}
use Rattle.events.specs.Table.{Poured, all, full, pour, finish}
use Rattle.events.specs.declared.Event.{Event}
use Rattle.events.specs.declared.Log.{Log}
use Rattle.events.specs.declared.Outcome.TheVariants.{TooLong}
use Rattle.reading.proofs.Places.{by_test}
use Rattle.rules.proofs.Changes.{apart}
use Rattle.rules.proofs.Given.{poured_given}
use Rattle.rules.proofs.Secrecy.{Alike, replaced_more}
use Rattle.rules.specs.Machine.{Ran}
use Rattle.rules.specs.Phases.{reads}
use Rattle.rules.specs.Secrecy.{Replaced, events_of}
use Rattle.rules.specs.Sessions.{start_of}
use Rattle.rules.specs.declared.Entry.{Entry}
use Rattle.rules.specs.declared.Settings.{Settings}
use Rattle.windows.proofs.Beyond.{Reached, within, beyond, on_all, reached_on, reached}
use Rattle.windows.proofs.Blindly.{pieces_told}
use Rattle.windows.proofs.Courses.{taking}
use Rattle.windows.proofs.Cut.{settled, onward, live, dead, stands_says, entries, begun}
use Rattle.windows.proofs.Firm.{Firm}
use Rattle.windows.proofs.Runs as runs
use Rattle.windows.proofs.Taken.{repeats}
use Rattle.windows.specs.Stands.{Stand, enter, enters, takes, does, pieces, stand_result, stand_place}
use Rattle.windows.specs.Windows.{Record, over, Shown, landed, lands, window, Tap, tapped, shows, shows_all, lastly}
use Rattle.windows.specs.Traces.{Answered, answered, answers, CutAlike}

-- ---- a window's answer hangs on how long it is, and on what its run lists and comes to
landed_alike : (base : ℕ) (a b : Ran Stand) → Alike a b → (x : Poured) → landed base a x ≡ landed base b x
unfolding landed
landed_alike base a b w (all u log) = rw (w.state, w.at) refl
landed_alike base a b w (full u q log) = refl

lands_alike : (base : ℕ) (t : List ℕ) (log : Log) (a b : Ran Stand) → Alike a b → lands base t log a ≡ lands base t log b
unfolding lands
lands_alike base t log a b w = ap (λ (es : List Event). landed base a (pour es t log)) w.events ∙ landed_alike base a b w (pour b.events t log)

module _ (set : Settings) where
  window_alike : (r : Record) (t v w : List ℕ) → length v ≡ length w
      → Alike (pieces set r.stand r.at v) (pieces set r.stand r.at w) → window set r t v ≡ window set r t w
  unfolding window
  window_alike r t v w n a =
      let e = lands_alike r.at t r.log (pieces set r.stand r.at v) (pieces set r.stand r.at w) a in
      rw (n, e) refl

  -- two runs that were alike and still are: so is what came since
  cancel : (es fs gs : List Event) → es ++ fs ≡ es ++ gs → fs ≡ gs
  cancel es fs gs h = sym (drop_at es fs (length es) refl) ∙ ap (drop (length es)) h ∙ drop_at es gs (length es) refl

  since : (p o : Ran Stand) (z w : List ℕ) → Alike p o → Alike (onward set p z) (onward set o w)
      → Alike (pieces set o.state o.at (p.rest ++ z)) (pieces set o.state o.at (o.rest ++ w))
  since p o z w a b =
      let e : pieces set o.state o.at (p.rest ++ z) ≡ pieces set p.state p.at (p.rest ++ z) = rw (a.state, a.at) refl in
      let c = (pieces set p.state p.at (p.rest ++ z)).events in
      record {
        events = ap (λ (q : Ran Stand). q.events) e ∙ cancel o.events c _ (ap (λ (es : List Event). es ++ c) (sym a.events) ∙ b.events);
        state = ap (λ (q : Ran Stand). q.state) e ∙ b.state;
        at = ap (λ (q : Ran Stand). q.at) e ∙ b.at;
      }

  module _ (t : List ℕ) (f : Stand) (sound : Firm f) where
    abbrev Some : List ℕ → Tap → Type 0
    Some = Reached set t f sound

    -- a tap that goes on stands where the run on its bytes stands
    record Lives (s : List ℕ) (x : Tap) : Type 0 where
      stand : x.session.stand ≡ (pieces set f 0 s).state
      at : x.session.at ≡ (pieces set f 0 s).at
      left : x.untaken ≡ (pieces set f 0 s).rest

    lives : (s : List ℕ) (x : Tap) → Some s x → over x.session.stand ≡ false → Lives s x
    lives s x (within (live u log h p e)) g =
        record { stand = ap (λ (y : Tap). y.session.stand) e; at = ap (λ (y : Tap). y.session.at) e; left = ap (λ (y : Tap). y.untaken) e }
    lives s x (within (dead h e z)) g = absurd (apart (sym h ∙ g))
    lives s x (beyond seen more m u log p h e) g = absurd (apart (sym h ∙ g))

    -- ---- one window of each of two taps
    module _ (s v w z : List ℕ) (x y : Tap) (x-set : x.settings ≡ set) (y-set : y.settings ≡ set)
        (session-same : y.session ≡ x.session) (table_same : y.table ≡ x.table) (i : Some s x) (j : Some v y)
        (long : length v ≡ length s) (next-long : length z ≡ length w)
        (was : Alike (pieces set f 0 v) (pieces set f 0 s)) (will : Alike (pieces set f 0 (v ++ z)) (pieces set f 0 (s ++ w))) where
      while_live : Lives s x → Lives v y → window set x.session x.table (y.untaken ++ z) ≡ window set x.session x.table (x.untaken ++ w)
      while_live a b =
          let o = pieces set f 0 s in
          let p = pieces set f 0 v in
          let c : Alike (onward set p z) (onward set o w) = rw (on_all set f sound v z, on_all set f sound s w) will in
          let d : Alike (pieces set x.session.stand x.session.at (y.untaken ++ z)) (pieces set x.session.stand x.session.at (x.untaken ++ w)) =
          rw (a.stand, a.at, a.left, b.left) (since p o z w was c) in
          let n : length (p.rest ++ z) ≡ length (o.rest ++ w) =
          omega (
            arith,
            runs.all_bytes Stand takes (does set) taking f 0 v,
            runs.all_bytes Stand takes (does set) taking f 0 s,
            was.at,
            length-append p.rest z,
            length-append o.rest w,
          ) in
          window_alike x.session x.table (y.untaken ++ z) (x.untaken ++ w) (rw (a.left, b.left) n) d

      same_window : window y.settings y.session y.table (y.untaken ++ z) ≡ window x.settings x.session x.table (x.untaken ++ w)
      same_window =
          rw (x-set, y-set, session-same, table_same)
          (by_test (over x.session.stand)
          (λ h. (repeats set x.session x.table (y.untaken ++ z) h).0 ∙ sym (repeats set x.session x.table (x.untaken ++ w) h).0)
          (λ h. while_live (lives s x i h) (lives v y j (rw session-same h))))

    -- ---- windows one after another
    same_answers : (ws vs : List (List ℕ)) (s v : List ℕ) (x y : Tap) → x.settings ≡ set → y.settings ≡ set
        → CutAlike ws vs → length v ≡ length s → y.session ≡ x.session → y.table ≡ x.table
        → Some s x → Some v y → ((k : ℕ) → Alike (pieces set f 0 (take k (v ++ flatten vs))) (pieces set f 0 (take k (s ++ flatten ws)))) → answers y vs ≡ answers x ws
    unfolding CutAlike answers shows flatten
    same_answers [] [] s v x y p q c long a b i j told = refl
    same_answers [] (z ∷ vs) s v x y p q c long a b i j told = absurd c
    same_answers (w ∷ ws) [] s v x y p q c long a b i j told = absurd c
    same_answers (w ∷ ws) (z ∷ vs) s v x y p q c long a b i j told =
        let m = length s in
        let n = length s + length w in
        let was : Alike (pieces set f 0 v) (pieces set f 0 s) = rw (take_at v (z ++ flatten vs) m long, take_at s (w ++ flatten ws) m refl) at (told m) in
        let on : (k : ℕ) → Alike (pieces set f 0 (take k ((v ++ z) ++ flatten vs))) (pieces set f 0 (take k ((s ++ w) ++ flatten ws))) =
        λ k. rw (append_assoc v z (flatten vs), append_assoc s w (flatten ws)) (told k) in
        let l : length (v ++ z) ≡ n = omega (arith, length-append v z, c.0) in
        let will : Alike (pieces set f 0 (v ++ z)) (pieces set f 0 (s ++ w)) =
        rw (take_at (v ++ z) (flatten vs) n l, take_at (s ++ w) (flatten ws) n (length-append s w)) at (on n) in
        let g = same_window s v w z x y p q a b i j long c.0 was will in
        let told-now = answered x.session (window x.settings x.session x.table (x.untaken ++ w)) in
        let first : answered y.session (window y.settings y.session y.table (y.untaken ++ z)) ≡ told-now =
        ap (λ (h : Shown). answered y.session h) g ∙ ap (λ (r : Record). answered r (window x.settings x.session x.table (x.untaken ++ w))) a in
        let later : answers (shows y z) vs ≡ answers (shows x w) ws =
        same_answers ws vs (s ++ w) (v ++ z) (shows x w) (shows y z) p q c.1 (l ∙ sym (length-append s w)) (ap (λ (h : Shown). h.next) g) (ap (λ (h : Shown). h.table) g)
        (reached_on set t f sound s x w i) (reached_on set t f sound v y z j) on in
        ap (λ (h : Answered). h ∷ answers (shows y z) vs) first ∙ ap (λ (hs : List Answered). told-now ∷ hs) later

  -- ---- the promise
  module _ (e : Entry) (t : List ℕ) (ws vs : List (List ℕ)) (cut : CutAlike ws vs) where
    abbrev start : Stand
    start = enters (start_of e) 0

    -- of two runs cut alike whose bytes differ only where the events permit it, every window gets the same answer, the same table and takes as many bytes:
    -- any list of windows, past the limit and with 12 too
    pub secrecy_by_windows : Replaced (pieces set start 0 (flatten ws)).events 0 (flatten ws) (flatten vs)
        → answers (tapped set (start_of e) t) vs ≡ answers (tapped set (start_of e) t) ws
    unfolding enter
    secrecy_by_windows w =
        let x = tapped set (start_of e) t in
        let i : Reached set t start (entries e).firm [] x = within (begun set (start_of e) t (entries e).reads_on) in
        same_answers t start (entries e).firm ws vs [] [] x x refl refl cut refl refl refl i i (pieces_told set (reads (start_of e)) 0 (flatten ws) (flatten vs) w)

    -- ---- and for the events that the last answer lists: they are the first of the run's
    abbrev listed : List Event
    listed = events_of (lastly (shows_all (tapped set (start_of e) t) ws))

    by_reached : Reached set t start (entries e).firm (flatten ws) (shows_all (tapped set (start_of e) t) ws) → Replaced listed 0 (flatten ws) (flatten vs)
        → Replaced (pieces set start 0 (flatten ws)).events 0 (flatten ws) (flatten vs)
    unfolding settled finish
    by_reached (within i) w =
        let o = pieces set start 0 (flatten ws) in
        let r = stand_result o.state in
        let p = stand_place o.state o.at in
        let a : listed ≡ take (settled t o).count o.events = ap events_of (stands_says set t o _ i) ∙ poured_given o.events t r p in
        replaced_more (settled t o).count o.events 0 (flatten ws) (flatten vs) (rw a at w)
    by_reached (beyond seen more m u log p h q) w =
        let o = pieces set start 0 seen in
        let a : listed ≡ take log.count o.events = ap events_of q ∙ rw p at (poured_given o.events t TooLong 0) in
        let b : Replaced o.events 0 (flatten ws) (flatten vs) = replaced_more log.count o.events 0 (flatten ws) (flatten vs) (rw a at w) in
        let later = (pieces set o.state o.at (o.rest ++ more)).events in
        let c : (pieces set start 0 (flatten ws)).events ≡ o.events ++ later =
        ap (λ (s : List ℕ). (pieces set start 0 s).events) m ∙ ap (λ (x : Ran Stand). x.events) (sym (on_all set start (entries e).firm seen more)) in
        let d : take (length o.events) (o.events ++ later) ≡ o.events = take_at o.events later (length o.events) refl in
        rw c (replaced_more (length o.events) (o.events ++ later) 0 (flatten ws) (flatten vs) (rw d b))

    pub secrecy_of_listed : Replaced listed 0 (flatten ws) (flatten vs) → answers (tapped set (start_of e) t) vs ≡ answers (tapped set (start_of e) t) ws
    secrecy_of_listed w = secrecy_by_windows (by_reached (reached set e t ws) w)
