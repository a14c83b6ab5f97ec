-- Demand 3, proved: bytes replaced where document 01 permits it change no answer, nor that of any beginning.
-- Assumes nothing.
use mathlib.Core.Path.{◌≡◌, refl, sym, ap, ◌∙◌}
use mathlib.Core.Bool.{Bool, true, false, ◌&&◌, ◌||◌}
use mathlib.Core.List.{List, [], ◌∷◌, ◌++◌}
use Prim.Native.Nat.{ℕ, zero, suc, ◌+◌, ◌-◌, ◌≤◌, ◌<◌}
use native.Mathlib.Omega.{arith}
use lib.Dec.{eqb, ltb}
use lib.ListN.{length, take, drop, get_or, take-append-drop, length-append, length-take}
use lib.Seq.{take-length, take-nil}
use borrow.Author.Tests.{ltb-true, ltb-false}
use Rattle.events.specs.Table.{no_events}
use Rattle.events.specs.declared.Event.{Event}
use Rattle.events.specs.declared.Log.{Log}
use Rattle.reading.proofs.Alike.{got_cut}
use Rattle.reading.proofs.Pieces.{got_splits, got_itself, got_alone}
use Rattle.reading.proofs.Places.{by_test}
use Rattle.reading.specs.Reading.{Got, got, short, fetch}
use Rattle.rules.specs.Machine.{Ran, before}
use Rattle.rules.specs.Phases.{Phase, State, reads, need}
use Rattle.rules.specs.Secrecy.{inside, may_turn, may, Replaced, events_in, events_of}
use Rattle.rules.specs.Sessions.{react, session, result_of, place_of, settle, answer, limit}
use Rattle.rules.proofs.Given.{poured_given}
use Rattle.rules.proofs.Machines.{session_shorter, session_short, session_got}
use Rattle.rules.proofs.Changes.{AllLie, all_lie_append, changed_piece, changed_rest, still, unchanged}
use Rattle.rules.proofs.Blind.{Blind, or_same, blind}

-- ---- runs
-- events of a run lie between where it begins and its end
lies_turn : (st : State) (at : ℕ) (s : List ℕ) (g : Got) → fetch (need st) s ≡ g
    → ((su : State) (to : ℕ) (r : List ℕ) → length r < length s → AllLie to (to + length r) (session su to r).events)
    → AllLie at (at + length s) (session st at s).events
unfolding AllLie
lies_turn st at s short f i = rw (session_short st at s f) tt
lies_turn st at s (got p r) f i =
    let l : length s ≡ length p + length r = ap length (got_splits (need st) s p r f) ∙ length-append p r in
    let z : at + length p + length r ≡ at + length s = omega (arith, l) in
    rw (session_got st at s p r f)
    (all_lie_append at (at + length p) (at + length s) (react st at p).events (session (react st at p).next (at + length p) r).events (omega arith) (omega (arith, l))
    (blind st at p (got_itself (need st) s p r f)).lie
    (rw z at (i (react st at p).next (at + length p) r (session_shorter st s p r f))))

pub run_lies : (n : ℕ) (st : State) (at : ℕ) (s : List ℕ) → length s ≤ n → AllLie at (at + length s) (session st at s).events
run_lies zero st at s h = lies_turn st at s (fetch (need st) s) refl (λ su to r g. absurd (omega arith))
run_lies (suc n) st at s h = lies_turn st at s (fetch (need st) s) refl (λ su to r g. run_lies n su to r (omega arith))

-- two runs that cannot be told apart by what they list and come to
pub record Alike {S : Type 0} (a b : Ran S) : Type 0 where
  pub events : a.events ≡ b.events
  pub state : a.state ≡ b.state
  pub at : a.at ≡ b.at

alike_settle : (t : List ℕ) (log : Log) (a b : Ran State) → Alike a b → settle t log a ≡ settle t log b
unfolding settle
alike_settle t log a b w = rw (w.events, w.state, w.at) refl

pub alike_before : {S : Type 0} (es : List Event) (a b : Ran S) → Alike a b → Alike (before es a) (before es b)
alike_before es a b w = record { events = ap (λ (fs : List Event). es ++ fs) w.events; state = w.state; at = w.at }

-- a piece that the beginning holds, and what is left of the beginning
pub taken : (k : ℕ) (p r : List ℕ) → length p ≤ k → take k (p ++ r) ≡ p ++ take (k - length p) r
taken k [] r h = let z : k - 0 ≡ k = omega arith in rw z refl
taken zero (x ∷ p) r h = absurd (omega arith)
taken (suc k) (x ∷ p) r h = let z : suc k - suc (length p) ≡ k - length p = omega arith in rw z (ap (λ (l : List ℕ). x ∷ l) (taken k p r (omega arith)))

-- ---- a beginning of k bytes, of a session and of one that is changed so
module _ (st : State) (at : ℕ) (s u : List ℕ) (k : ℕ) where
  abbrev Told : Type 0
  Told = Alike (session st at (take k u)) (session st at (take k s))

  told_short : fetch (need st) s ≡ short → Replaced (session st at s).events at s u → Told
  unfolding still
  told_short f w =
      let e : u ≡ s = unchanged [] at s u refl (rw (session_short st at s f) at w) in
      rw e (record { events = refl; state = refl; at = refl })

  module _ (p r : List ℕ) (f : fetch (need st) s ≡ got p r) (w : Replaced (session st at s).events at s u) where
    abbrev q : List ℕ
    q = take (length p) u

    abbrev v : List ℕ
    v = drop (length p) u

    abbrev rest_events : List Event
    rest_events = (session (react st at p).next (at + length p) r).events

    changed : Replaced ((react st at p).events ++ rest_events) at (p ++ r) u
    changed = rw (session_got st at s p r f, got_splits (need st) s p r f) at w

    blinded : Blind react st at p
    blinded = blind st at p (got_itself (need st) s p r f)

    abbrev behind : AllLie (at + length p) (at + length p + length r) rest_events
    behind = run_lies (length r) (react st at p).next (at + length p) r (omega arith)

    piece_changed : Replaced (react st at p).events at p q
    piece_changed = changed_piece (react st at p).events rest_events at (at + length p + length r) p r u changed blinded.lie behind

    rest_changed : Replaced rest_events (at + length p) r v
    rest_changed = changed_rest (react st at p).events rest_events at (at + length p + length r) p r u changed blinded.lie behind

    read_again : (x : List ℕ) → fetch (need st) (q ++ x) ≡ got q x
    read_again x = got_alone (need st) q q [] (blinded.piece q piece_changed) x

    told_cut : k < length p → Told
    told_cut h =
        let a : fetch (need st) u ≡ got q v = ap (fetch (need st)) (sym (take-append-drop (length p) u)) ∙ read_again v in
        let b = session_short st at (take k u) (got_cut (need st) u q v k a (omega (arith, piece_changed.long))) in
        let c = session_short st at (take k s) (got_cut (need st) s p r k f h) in
        rw (b, c) (record { events = refl; state = refl; at = refl })

    told_on : length p ≤ k
        → Alike (session (react st at p).next (at + length p) (take (k - length p) v)) (session (react st at p).next (at + length p) (take (k - length p) r))
        → Told
    told_on h i =
        let a : take k u ≡ q ++ take (k - length p) v =
        ap (take k) (sym (take-append-drop (length p) u))
        ∙ taken k q v (omega (arith, piece_changed.long))
        ∙ rw piece_changed.long refl in
        let b : take k s ≡ p ++ take (k - length p) r = ap (take k) (got_splits (need st) s p r f) ∙ taken k p r h in
        let c = session_got st at (q ++ take (k - length p) v) q (take (k - length p) v) (read_again (take (k - length p) v)) in
        let d = session_got st at (p ++ take (k - length p) r) p (take (k - length p) r) (got_alone (need st) s p r f (take (k - length p) r)) in
        rw (a, b, c, d, blinded.same q piece_changed, piece_changed.long) (alike_before (react st at p).events _ _ i)

told_turn : (st : State) (at : ℕ) (s u : List ℕ) (k : ℕ) (g : Got) → fetch (need st) s ≡ g → Replaced (session st at s).events at s u
    → ((su : State) (to : ℕ) (r v : List ℕ) (j : ℕ) → length r < length s → Replaced (session su to r).events to r v → Told su to r v j)
    → Told st at s u k
told_turn st at s u k short f w i = told_short st at s u k f w
told_turn st at s u k (got p r) f w i =
    by_test (ltb k (length p))
    (λ t. told_cut st at s u k p r f w (ltb-true k (length p) t))
    (λ t.
    told_on st at s u k p r f w (ltb-false k (length p) t)
    (i (react st at p).next (at + length p) r (drop (length p) u) (k - length p) (session_shorter st s p r f) (rest_changed st at s u k p r f w)))

told : (n : ℕ) (st : State) (at : ℕ) (s u : List ℕ) (k : ℕ) → length s ≤ n → Replaced (session st at s).events at s u → Told st at s u k
told zero st at s u k h w = told_turn st at s u k (fetch (need st) s) refl w (λ su to r v j g. absurd (omega arith))
told (suc n) st at s u k h w = told_turn st at s u k (fetch (need st) s) refl w (λ su to r v j g x. told n su to r v j (omega arith) x)

-- ---- the promise, for beginnings: of two sessions that differ only so, each beginning gets the same answer
pub beginnings : (start : Phase) (s u : List ℕ) → Replaced (session (reads start) 0 s).events 0 s u → (k : ℕ) (t : List ℕ) → answer start t (take k u) ≡ answer start t (take k s)
unfolding answer
beginnings start s u w k t =
    let n : length (take k u) ≡ length (take k s) = length-take k u ∙ rw w.long (sym (length-take k s)) in
    rw (n, alike_settle t no_events (session (reads start) 0 (take k u)) (session (reads start) 0 (take k s)) (told (length s) (reads start) 0 s u k (omega arith) w)) refl

-- ---- and for the events of the answer given
or_more : (x a b : Bool) → (a ≡ true → b ≡ true) → (x || a) ≡ true → (x || b) ≡ true
or_more true a b i h = refl
or_more false a b i h = i h

may_more : (n : ℕ) (es : List Event) (p b c : ℕ) → may (take n es) p b c ≡ true → may es p b c ≡ true
unfolding may
may_more n [] p b c h = rw (take-nil n) at h
may_more zero (e ∷ es) p b c h = or_more (inside e p && may_turn e.kind b c) (eqb b c) (may es p b c) (λ g. may_more zero es p b c g)
    (or_same (inside e p && may_turn e.kind b c) (eqb b c) h)
may_more (suc n) (e ∷ es) p b c h = or_more (inside e p && may_turn e.kind b c) (may (take n es) p b c) (may es p b c) (λ g. may_more n es p b c g) h

pub replaced_more : (n : ℕ) (es : List Event) (at : ℕ) (s u : List ℕ) → Replaced (take n es) at s u → Replaced es at s u
replaced_more n es at s u w = record { long = w.long; bytes = λ p h. may_more n es (at + p) (get_or s p 0) (get_or u p 0) (w.bytes p h) }

-- an answer does not change where bytes inside its own user, password and body-line events are replaced, neither CR nor LF being replaced or brought in, nor a dot brought in,
-- nor where any bytes inside its sized bodies are
pub secrecy : (start : Phase) (t s u : List ℕ) → Replaced (events_of (answer start t s)) 0 s u → answer start t u ≡ answer start t s
unfolding answer settle events_of events_in still
secrecy start t s u w =
    by_test (ltb limit (length s))
    (λ l. ap (answer start t) (unchanged [] 0 s u refl (rw l at w)))
    (λ l.
    let o = session (reads start) 0 s in
    let v : Replaced (events_of (settle t no_events o)) 0 s u = rw l at w in
    let x : Replaced o.events 0 s u = replaced_more (settle t no_events o).count o.events 0 s u
    (rw (poured_given o.events t (result_of o.state) (place_of o.state o.at)) at v) in
    let n : take (length s) u ≡ u = ap (λ (k : ℕ). take k u) (sym w.long) ∙ take-length u in
    rw (n, take-length s) at (beginnings start s u x (length s) t))
