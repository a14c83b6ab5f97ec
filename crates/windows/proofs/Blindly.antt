-- A session that is taken in pieces is blind to permitted changes: each beginning comes to the same events, stand and position.
-- Assumes nothing.
use mathlib.Core.Path.{◌≡◌, refl, sym, ap, ◌∙◌}
use mathlib.Core.Bool.{Bool, true, false, cond}
use mathlib.Core.List.{List, [], ◌∷◌, ◌++◌}
use Prim.Native.Nat.{ℕ, zero, suc, ◌+◌, ◌-◌, ◌≤◌, ◌<◌}
use native.Mathlib.Omega.{arith}
use lib.Dec.{eqb, ltb}
use lib.ListN.{length, take, drop, take-append-drop, length-append}
use lib.Seq.{take-take, take_at, length-take-le}
use borrow.Author.Tests.{ne_eqb, ltb-true, ltb-false}
use Rattle.events.specs.declared.Encoding.{Encoding}
use Rattle.events.specs.declared.Event.{Event}
use Rattle.events.specs.declared.Outcome.TheVariants.{LongBoundary}
use Rattle.reading.proofs.Alike.{got_cut}
use Rattle.reading.proofs.Pieces.{got_splits, got_itself, got_alone, got_reach, got_length}
use Rattle.reading.proofs.Places.{by_test}
use Rattle.reading.specs.Reading.{Need, bytes, Got, got, short, reach, parted, fetch}
use Rattle.std.specs.Prelude.{Some, None}
use Rattle.rules.proofs.Blind.{Blind, still_content, blind_with}
use Rattle.rules.proofs.Changes.{AllLie, changed_piece, changed_rest, still, unchanged}
use Rattle.rules.proofs.Machines.{session_shorter}
use Rattle.rules.proofs.Secrecy.{Alike, alike_before, run_lies}
use Rattle.rules.proofs.Strict.{CutShort, alike as same, cut_at, cut_short}
use Rattle.rules.proofs.Secrecy as secrecy
use Rattle.rules.specs.Machine.{Ran, stay, before}
use Rattle.rules.specs.Mail.{on_preamble, on_content, content_length}
use Rattle.rules.specs.Phases.{Phase, State, reads, ends, need, wants}
use Rattle.rules.specs.Phases as phase
use Rattle.rules.specs.Secrecy.{Replaced}
use Rattle.rules.specs.Sessions.{reacts, react, session}
use Rattle.rules.specs.Strict.{is_bare, strictly, react_with, session_with}
use Rattle.rules.specs.declared.Settings.{Settings}
use Rattle.windows.proofs.Bridge.{Told, told, told_stand, Agrees, alike, longer, bridge}
use Rattle.windows.proofs.Courses.{Waits, Follows, Course, follows, too_long, course, pieces_short, pieces_got}
use Rattle.windows.proofs.Sized.{sized_one, sized_none}
use Rattle.windows.specs.Stands.{Stand, fresh, in_literal, clipped, enters, enter, takes, does, pieces}

-- ---- the events of a run lie between where it begins and its end
lie_first : (lo hi : ℕ) (es fs : List Event) → AllLie lo hi (es ++ fs) → AllLie lo hi es
unfolding AllLie
lie_first lo hi [] fs l = tt
lie_first lo hi (e ∷ es) fs l = (l.0, lie_first lo hi es fs l.1)

lie_agrees : (lo hi : ℕ) (x y : Told) → Agrees x y → AllLie lo hi y.events → AllLie lo hi x.events
lie_agrees lo hi x y (alike e) l = rw e l
lie_agrees lo hi x y (longer h more g) l = lie_first lo hi x.events more (rw g at l)

lie_cut : (lo hi : ℕ) (x y : Ran State) → CutShort x y → AllLie lo hi y.events → AllLie lo hi x.events
lie_cut lo hi x y (same e) l = rw e l
lie_cut lo hi x y (cut_at p e more g) l = lie_first lo hi x.events more (rw g at l)

module _ (set : Settings) where
  pieces_lie : (st : State) (at : ℕ) (s : List ℕ) → AllLie at (at + length s) (pieces set (enter st at) at s).events
  pieces_lie st at s =
      lie_agrees at (at + length s) (told_stand (pieces set (enter st at) at s)) (told (session_with set st at s)) (bridge set st at s)
      (lie_cut at (at + length s) (session_with set st at s) (session st at s) (cut_short set st at s) (run_lies (length s) st at s (omega arith)))

  -- ---- of a sized body that is not all there, only how many bytes are
  pub literal_cut : (e : Encoding) (from n at : ℕ) (x : List ℕ) → length x ≤ n → pieces set (in_literal e from n) at x ≡ stay (in_literal e from (n - length x)) (at + length x) []
  unfolding takes does
  literal_cut e from n at [] h =
      let a : n - 0 ≡ n = omega arith in
      let b : at + 0 ≡ at = omega arith in
      rw (a, b) (pieces_short set (in_literal e from n) at [] (sized_none 0))
  literal_cut e from zero at (y ∷ x) h = absurd (omega arith)
  literal_cut e from (suc n) at (y ∷ x) h =
      let a : suc n - 1 ≡ n = omega arith in
      let b : suc n - suc (length x) ≡ n - length x = omega arith in
      let c : at + suc (length x) ≡ at + 1 + length x = omega arith in
      let d : eqb (suc n) 0 ≡ false = ne_eqb (suc n) 0 (λ z. omega arith) in
      pieces_got set (in_literal e from (suc n)) at (y ∷ x) (y ∷ []) x (sized_one y x) ∙ rw (a, b, c, d) (literal_cut e from n (at + 1) x (omega arith))

  sized_long : (n : ℕ) (s p r : List ℕ) → fetch (bytes n) s ≡ got p r → length p ≡ n + 1
  unfolding reach
  sized_long n s p r f = let e = got_reach (bytes n) s p r f in got_length (bytes n) s p r f ∙ by_room (ltb n (length s)) e.0 e.1
    where
      by_room : (b : Bool) (m : ℕ) → cond b (Some (n + 1)) None ≡ Some m → m ≡ n + 1
      by_room true m h = cc
      by_room false m h = absurd (let z : ◌≡◌ {A = ℕ} 0 1 = cc in omega arith)

  -- a beginning of a beginning
  front : (k : ℕ) (p r : List ℕ) → k ≤ length p → take k (p ++ r) ≡ take k p
  front k p r h = sym (take-take k (length p) (p ++ r) h) ∙ ap (take k) (take_at p r (length p) refl)

  -- ---- how a read is taken: at once; or in pieces, and allows no change; or byte by byte
  data Manner (st : State) (at : ℕ) : Type 0 where
    at_once : (so : State) → enter st at ≡ fresh so → need so ≡ need st → Manner st at
    unmoved : ((p : List ℕ) → still (react_with set st at p).events ≡ true) → Manner st at
    sized : (e : Encoding) (n : ℕ) → enter st at ≡ in_literal e at n → need st ≡ bytes n → Manner st at

  plainly : (st : State) (at : ℕ) → enter st at ≡ fresh st → Manner st at
  plainly st at e = at_once st e refl

  phase_manner : (ph : Phase) (at : ℕ) → Manner (reads ph) at
  unfolding enter enters need wants strictly is_bare react reacts on_preamble on_content still
  phase_manner phase.hello at = plainly (reads phase.hello) at refl
  phase_manner phase.second at = plainly (reads phase.second) at refl
  phase_manner phase.user at = plainly (reads phase.user) at refl
  phase_manner phase.password at = plainly (reads phase.password) at refl
  phase_manner phase.sender at = plainly (reads phase.sender) at refl
  phase_manner phase.seeking at = plainly (reads phase.seeking) at refl
  phase_manner phase.recipient at = plainly (reads phase.recipient) at refl
  phase_manner phase.reply at = plainly (reads phase.reply) at refl
  phase_manner phase.status at = plainly (reads phase.status) at refl
  phase_manner phase.command at = plainly (reads phase.command) at refl
  phase_manner (phase.offered size) at = plainly (reads (phase.offered size)) at refl
  phase_manner phase.closing at = plainly (reads phase.closing) at refl
  phase_manner (phase.head m k os) at = at_once (reads (phase.head m (clipped k) os)) refl refl
  phase_manner (phase.text m e) at = plainly (reads (phase.text m e)) at refl
  phase_manner (phase.literal e n) at = sized e n refl refl
  phase_manner (phase.preamble m b os) at = unmoved (λ p. refl)
  phase_manner (phase.opened m b os) at = plainly (reads (phase.opened m b os)) at refl
  phase_manner (phase.content m e b os) at = unmoved (λ p. still_content e at (content_length b (length p)))
  phase_manner (phase.between m b os) at = plainly (reads (phase.between m b os)) at refl
  phase_manner (phase.skipping m b os) at = plainly (reads (phase.skipping m b os)) at refl
  phase_manner (phase.resting m b os n) at = plainly (reads (phase.resting m b os n)) at refl

  manner : (st : State) (at : ℕ) → Manner st at
  unfolding enter
  manner (reads ph) at = phase_manner ph at
  manner (ends r p) at = plainly (ends r p) at refl

  itself : (o : Ran Stand) → Alike o o
  itself o = record { events = refl; state = refl; at = refl }

  -- ---- a beginning of k bytes, of a session and of one that is changed so
  module _ (st : State) (at : ℕ) (s u : List ℕ) (k : ℕ) where
    abbrev Alikes : Type 0
    Alikes = Alike (pieces set (enter st at) at (take k u)) (pieces set (enter st at) at (take k s))

    -- nothing is listed: nothing may change
    unlisted : (pieces set (enter st at) at s).events ≡ [] → Replaced (pieces set (enter st at) at s).events at s u → Alikes
    unfolding still
    unlisted e w = let q : u ≡ s = unchanged [] at s u refl (rw e at w) in rw q (itself (pieces set (enter st at) at (take k s)))

    module _ (c : (x : List ℕ) → Follows set st at x (fetch (need st) x)) (p r : List ℕ) (f : fetch (need st) s ≡ got p r)
        (w : Replaced (pieces set (enter st at) at s).events at s u) where
      abbrev q : List ℕ
      q = take (length p) u

      abbrev v : List ℕ
      v = drop (length p) u

      -- a read that has its piece goes on behind it
      gone : (x y z : List ℕ) → fetch (need st) x ≡ got y z
          → pieces set (enter st at) at x ≡ before (react_with set st at y).events (pieces set (enter (react_with set st at y).next (at + length y)) (at + length y) z)
      unfolding Follows
      gone x y z e = rw e at (c x)

      abbrev rest_events : List Event
      rest_events = (pieces set (enter (react_with set st at p).next (at + length p)) (at + length p) r).events

      changed : Replaced ((react_with set st at p).events ++ rest_events) at (p ++ r) u
      changed = rw (gone s p r f, got_splits (need st) s p r f) at w

      blinded : Blind (react_with set) st at p
      blinded = blind_with set st at p (got_itself (need st) s p r f)

      abbrev behind : AllLie (at + length p) (at + length p + length r) rest_events
      behind = pieces_lie (react_with set st at p).next (at + length p) r

      piece_changed : Replaced (react_with set st at p).events at p q
      piece_changed = changed_piece (react_with set st at p).events rest_events at (at + length p + length r) p r u changed blinded.lie behind

      rest_changed : Replaced rest_events (at + length p) r v
      rest_changed = changed_rest (react_with set st at p).events rest_events at (at + length p + length r) p r u changed blinded.lie behind

      read_again : (x : List ℕ) → fetch (need st) (q ++ x) ≡ got q x
      read_again x = got_alone (need st) q q [] (blinded.piece q piece_changed) x

      read_changed : fetch (need st) u ≡ got q v
      read_changed = ap (fetch (need st)) (sym (take-append-drop (length p) u)) ∙ read_again v

      -- cut inside the piece
      cut_by : k < length p → Manner st at → Alikes
      unfolding takes
      cut_by h (at_once so e n) =
          let a : pieces set (enter st at) at (take k u) ≡ stay (fresh so) at (take k u) =
          rw e (pieces_short set (fresh so) at (take k u) (ap (λ (x : Need). fetch x (take k u)) n
          ∙ got_cut (need st) u q v k read_changed (omega (arith, piece_changed.long)))) in
          let b : pieces set (enter st at) at (take k s) ≡ stay (fresh so) at (take k s) =
          rw e (pieces_short set (fresh so) at (take k s) (ap (λ (x : Need). fetch x (take k s)) n ∙ got_cut (need st) s p r k f h)) in
          rw (a, b) (record { events = refl; state = refl; at = refl })
      cut_by h (unmoved g) =
          let e : q ≡ p = unchanged (react_with set st at p).events at p q (g p) piece_changed in
          let a : take k u ≡ take k q = sym (take-take k (length p) u (omega arith)) in
          let b : take k s ≡ take k p = ap (take k) (got_splits (need st) s p r f) ∙ front k p r (omega arith) in
          rw (a, b, e) (itself (pieces set (enter st at) at (take k p)))
      cut_by h (sized e n i d) =
          let m : length p ≡ n + 1 = sized_long n s p r (rw d at f) in
          let a : length (take k u) ≡ k = length-take-le k u (omega (arith, w.long, ap length (got_splits (need st) s p r f), length-append p r)) in
          let b : length (take k s) ≡ k = length-take-le k s (omega (arith, ap length (got_splits (need st) s p r f), length-append p r)) in
          let j = literal_cut e at n at (take k u) (omega arith) in
          let l = literal_cut e at n at (take k s) (omega arith) in
          rw (i, j, l, a, b) (record { events = refl; state = refl; at = refl })

      -- the piece, and what follows
      goes_on_lem : length p ≤ k
          → Alike (pieces set (enter (react_with set st at p).next (at + length p)) (at + length p) (take (k - length p) v))
          (pieces set (enter (react_with set st at p).next (at + length p)) (at + length p) (take (k - length p) r))
          → Alikes
      goes_on_lem h i =
          let a : take k u ≡ q ++ take (k - length p) v =
          ap (take k) (sym (take-append-drop (length p) u))
          ∙ secrecy.taken k q v (omega (arith, piece_changed.long))
          ∙ rw piece_changed.long refl in
          let b : take k s ≡ p ++ take (k - length p) r = ap (take k) (got_splits (need st) s p r f) ∙ secrecy.taken k p r h in
          let x = gone (q ++ take (k - length p) v) q (take (k - length p) v) (read_again (take (k - length p) v)) in
          let y = gone (p ++ take (k - length p) r) p (take (k - length p) r) (got_alone (need st) s p r f (take (k - length p) r)) in
          rw (a, b, x, y, blinded.same q piece_changed, piece_changed.long) (alike_before (react_with set st at p).events _ _ i)

  -- ---- every beginning
  abbrev Blindly : ℕ → Type 0
  Blindly n = (st : State) (at : ℕ) (s u : List ℕ) (k : ℕ) → length s < n → Replaced (pieces set (enter st at) at s).events at s u → Alikes st at s u k

  module _ (st : State) (at : ℕ) (s u : List ℕ) (k : ℕ) (w : Replaced (pieces set (enter st at) at s).events at s u) (ih : Blindly (length s)) where
    by_piece : ((x : List ℕ) → Follows set st at x (fetch (need st) x)) → (g : Got) → fetch (need st) s ≡ g → Alikes st at s u k
    unfolding Follows
    by_piece c short f =
        let i : Waits set st at s = rw f at (c s) in
        unlisted st at s u k (ap (λ (o : Ran Stand). o.events) i.is) w
    by_piece c (got p r) f =
        by_test (ltb k (length p))
        (λ t. cut_by st at s u k c p r f w (ltb-true k (length p) t) (manner st at))
        (λ t.
        goes_on_lem st at s u k c p r f w (ltb-false k (length p) t)
        (ih (react_with set st at p).next (at + length p) r (drop (length p) u) (k - length p) (session_shorter st s p r f) (rest_changed st at s u k c p r f w)))

    by_course : Course set st at → Alikes st at s u k
    unfolding takes need fetch reach parted
    by_course (follows c) = by_piece c (fetch (need st) s) refl
    by_course (too_long e) =
        let f = fresh (ends LongBoundary at) in
        let o : pieces set (enter st at) at s ≡ stay f at s = ap (λ (g : Stand). pieces set g at s) e ∙ pieces_short set f at s refl in
        unlisted st at s u k (ap (λ (o : Ran Stand). o.events) o) w

  upto : (n : ℕ) → Blindly n
  upto zero st at s u k h w = absurd (omega arith)
  upto (suc n) st at s u k h w = by_course st at s u k w (λ su to r v j g x. upto n su to r v j (omega arith) x) (course set st at)

  -- of two sessions that differ only where document 01 permits it, each beginning comes to the same
  pub pieces_told : (st : State) (at : ℕ) (s u : List ℕ) → Replaced (pieces set (enter st at) at s).events at s u
      → (k : ℕ) → Alike (pieces set (enter st at) at (take k u)) (pieces set (enter st at) at (take k s))
  pieces_told st at s u w k = upto (suc (length s)) st at s u k (omega arith) w
