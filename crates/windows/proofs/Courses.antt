-- A session that is taken in pieces goes the way of document 01's: every read comes to what it comes to there; but for a boundary that is too long.
-- Assumes nothing.
use mathlib.Core.Path.{◌≡◌, refl, sym, ap, ◌∙◌}
use mathlib.Core.Bool.{Bool, true, false, cond, not, ◌&&◌}
use mathlib.Core.List.{List, ◌∷◌, ◌++◌}
use Rattle.std.specs.Prelude.{Option, None, Some}
use Prim.Native.Nat.{ℕ, ◌+◌, ◌-◌, ◌≤◌, ◌<◌}
use native.Mathlib.Omega.{arith}
use lib.Dec.{eqb, ltb, leb}
use lib.ListN.{length, take, drop, length-take}
use lib.Seq.{take-take, take_all}
use borrow.Author.Tests.{ltb-true, ltb-false, lt-ltb}
use Rattle.events.specs.Events.{ev, header_line}
use Rattle.events.specs.declared.Encoding.{Encoding}
use Rattle.events.specs.declared.Encoding.TheVariants.{Unsaid}
use Rattle.events.specs.declared.Event.{Event}
use Rattle.events.specs.declared.Outcome.TheVariants.{TooDeep, LongBoundary}
use Rattle.fields.specs.Common.{Known, scanned, by_boundary, first_encoding}
use Rattle.reading.proofs.Pieces.{got_splits, got_moves}
use Rattle.reading.proofs.Places.{by_test}
use Rattle.reading.specs.Bytes.{starts_with, same, ends_with}
use Rattle.reading.specs.Reading.{crlf, dash, Need, bytes, Got, got, short, fetch}
use Rattle.rules.proofs.Machines as machine
use Rattle.rules.proofs.Machines.{Reads}
use Rattle.rules.specs.Machine.{Reaction, stay, before}
use Rattle.rules.specs.Mail.{levels, begun, on_head, on_preamble, on_content, on_literal}
use Rattle.rules.specs.Phases.{Phase, State, reads, ends, need, wants}
use Rattle.rules.specs.Phases as phase
use Rattle.rules.specs.Sessions.{reacts, react, result_of, place_of}
use Rattle.rules.specs.Strict.{is_bare, strictly, react_with}
use Rattle.rules.specs.declared.Mail.{Mail}
use Rattle.rules.specs.declared.Settings.{Settings}
use Rattle.windows.proofs.Delimiters.{word_marks, delimited}
use Rattle.windows.proofs.Marks.{by_lines, piece_splits}
use Rattle.windows.proofs.Piecemeal.{Piecemeal, Under, Comes, comes}
use Rattle.windows.proofs.Sized.{by_bytes}
use Rattle.windows.specs.Pieces.{word, piece_of, is_mark}
use Rattle.windows.specs.Stands.{Stand, fresh, in_preamble, in_content, in_literal, longest, copied, clipped, opens, enters, enter, entered, goes_on, takes, does, pieces, stand_result, stand_place}

-- ---- piece and rest make up the bytes
takes_splits : (f : Stand) (s p r : List ℕ) → takes f s ≡ got p r → (s ≡ p ++ r) × (0 < length p)
unfolding takes
takes_splits (fresh st) s p r g = (got_splits (need st) s p r g, got_moves (need st) s p r g)
takes_splits (in_preamble m b os from here) s p r g = piece_splits (word_marks (dash b) (omega arith)) here s p r g
takes_splits (in_content m e b os from here) s p r g = piece_splits (word_marks (dash b) (omega arith)) here s p r g
takes_splits (in_literal e from left) s p r g = (got_splits (bytes 0) s p r g, got_moves (bytes 0) s p r g)

pub taking : Reads Stand takes
taking = record { splits = λ f s p r g. (takes_splits f s p r g).0; moves = λ f s p r g. (takes_splits f s p r g).1 }

module _ (set : Settings) where
  pub pieces_short : (f : Stand) (at : ℕ) (s : List ℕ) → takes f s ≡ short → pieces set f at s ≡ stay f at s
  pieces_short = machine.run_short Stand takes (does set) taking

  pub pieces_got : (f : Stand) (at : ℕ) (s p r : List ℕ) → takes f s ≡ got p r
      → pieces set f at s ≡ before (does set f at p).events (pieces set (does set f at p).next (at + length p) r)
  pieces_got = machine.run_got Stand takes (does set) taking

  -- ---- the course of a read: it waits, and is answered as in document 01; or it has its piece, and goes on as there; or 12
  pub record Waits (st : State) (at : ℕ) (s : List ℕ) : Type 0 where
    pub stand : Stand
    pub far : ℕ
    pub is : pieces set (enter st at) at s ≡ stay stand (at + far) (drop far s)
    pub result : stand_result stand ≡ result_of st
    pub place : stand_place stand (at + far) ≡ place_of st at

  unfoldable pub Follows : State → ℕ → List ℕ → Got → Type 0
  Follows st at s (got p r) =
      pieces set (enter st at) at s ≡ before (react_with set st at p).events (pieces set (enter (react_with set st at p).next (at + length p)) (at + length p) r)
  Follows st at s short = Waits st at s

  pub data Course (st : State) (at : ℕ) : Type 0 where
    follows : ((s : List ℕ) → Follows st at s (fetch (need st) s)) → Course st at
    too_long : enter st at ≡ fresh (ends LongBoundary at) → Course st at

  -- ---- a read that is taken whole
  module _ (st : State) (at : ℕ) (so : State) (entered_so : enter st at ≡ fresh so) (need-same : need so ≡ need st) (result-same : result_of so ≡ result_of st)
      (place_same : place_of so at ≡ place_of st at)
      (does_same : (p : List ℕ) → entered (react_with set so at p) (at + length p) ≡ entered (react_with set st at p) (at + length p)) where
    by_piece : (s : List ℕ) (g : Got) → fetch (need st) s ≡ g → Follows st at s g
    unfolding Follows takes does stand_result stand_place
    by_piece s short e =
        let z : at + 0 ≡ at = omega arith in
        record {
          stand = fresh so;
          far = 0;
          is = rw (entered_so, z) (pieces_short (fresh so) at s (ap (λ (n : Need). fetch n s) need-same ∙ e));
          result = result-same;
          place = rw z place_same;
        }
    by_piece s (got p r) e =
        rw entered_so (pieces_got (fresh so) at s p r (ap (λ (n : Need). fetch n s) need-same ∙ e)
        ∙ ap (λ (x : Reaction Stand). before x.events (pieces set x.next (at + length p) r)) (does_same p))

    at_once : Course st at
    at_once = follows (λ s. by_piece s (fetch (need st) s) refl)

  plainly : (st : State) (at : ℕ) → enter st at ≡ fresh st → Course st at
  plainly st at e = at_once st at st e refl refl refl (λ p. refl)

  -- ---- a read that is taken in pieces
  module _ (st : State) (at : ℕ) {U : Type 0} {piece : U → List ℕ → Got} {last : U → List ℕ → Bool} {next : U → List ℕ → U} {whole : U → List ℕ → Got}
      (P : Piecemeal piece last next whole) {f : U → Stand} {end : ℕ → Reaction State} (under : Under set piece last next f end) (u : U)
      (entered_so : enter st at ≡ f u) (whole_is : (s : List ℕ) → whole u s ≡ fetch (need st) s) (end_is : (p : List ℕ) → end (at + length p) ≡ react_with set st at p)
      (result-same : (v : U) → stand_result (f v) ≡ result_of st) (place_same : (v : U) (to : ℕ) → stand_place (f v) to ≡ place_of st at) where
    came : (s : List ℕ) (g : Got) → Comes set taking P under u at s g → Follows st at s g
    unfolding Comes Follows
    came s (got p r) h = rw entered_so (h ∙ ap (λ (x : Reaction State). before x.events (pieces set (enter x.next (at + length p)) (at + length p) r)) (end_is p))
    came s short h =
        record { stand = f h.known; far = h.far; is = rw entered_so h.is; result = result-same h.known; place = place_same h.known (at + h.far) }

    in_pieces : Course st at
    in_pieces = follows (λ s. rw (whole_is s) at (came s (whole u s) (comes set taking P under u at s)))

-- ---- a header's boundary is clipped: one that may be is copied whole, and of a longer one it can still be told
pub copied_whole : (b : List ℕ) → length b ≤ longest → take (longest + 1) b ≡ b
copied_whole b h = take_all (longest + 1) b (omega arith)

pub tells_long : (b : List ℕ) → ltb longest (length (take (longest + 1) b)) ≡ ltb longest (length b)
tells_long b =
    by_test (ltb longest (length b))
    (λ h. lt-ltb longest (length (take (longest + 1) b)) (omega (arith, ltb-true longest (length b) h, length-take (longest + 1) b)) ∙ sym h)
    (λ h. ap (λ (c : List ℕ). ltb longest (length c)) (copied_whole b (omega (arith, ltb-false longest (length b) h))))

-- 12 exactly where a boundary of more than 70 bytes opens
pub twelve : (m : Mail) (b : List ℕ) (os : List (List ℕ)) (at : ℕ)
    → opens m (take (longest + 1) b) os at ≡ cond (ltb longest (length b)) (fresh (ends LongBoundary at)) (in_preamble m b os at true)
unfolding opens
twelve m b os at =
    by_test (ltb longest (length b))
    (λ h. rw (tells_long b, h))
    (λ h. let e : take (longest + 1) b ≡ b = copied_whole b (omega (arith, ltb-false longest (length b) h)) in rw e)

module _ (set : Settings) where
  -- behind a header's blank line: 9 inside eight levels, else so, at the same place
  pub after_nine : (m : Mail) (e : Encoding) (seen : Bool) (b : List ℕ) (os : List (List ℕ)) (at : ℕ)
      → (does set (fresh (reads (phase.head m (clipped (record { encoding = e; type_seen = seen; boundary = Some b })) os))) at crlf).next
      ≡ cond (leb levels (length os)) (fresh (ends TooDeep (at + 2))) (cond (ltb longest (length b)) (fresh (ends LongBoundary (at + 2))) (in_preamble m b os (at + 2) true))
  unfolding does strictly is_bare need wants react reacts on_head clipped copied begun enter enters ends_with same starts_with
  after_nine m e seen b os at = by_test (leb levels (length os)) (λ h. rw h) (λ h. rw (h, twelve m b os (at + 2)))

begun_clipped : (m : Mail) (e : Encoding) (o : Option (List ℕ)) (os : List (List ℕ)) (to : ℕ) → entered (begun m e (copied o) os to) to ≡ entered (begun m e o os to) to
unfolding begun copied enter enters opens
begun_clipped m e None os to = refl
begun_clipped m e (Some b) os to = by_test (leb levels (length os)) (λ h. rw h) (λ h. rw h (ap (λ (f : Stand). goes_on f) (twelve m b os to)))

pub clipped_again : (e : Encoding) (seen : Bool) (o : Option (List ℕ)) (l : List ℕ) → clipped (by_boundary e seen (copied o) l) ≡ clipped (by_boundary e seen o l)
unfolding copied clipped by_boundary
clipped_again e seen None l = refl
clipped_again e seen (Some b) l = rw (take-take (longest + 1) (longest + 1) b (let n : longest + 1 ≤ longest + 1 = omega arith in n))

abbrev listed : Event → Reaction Stand → Reaction Stand
listed e re = record { events = e ∷ re.events; next = re.next }

head_clipped : (m : Mail) (k : Known) (os : List (List ℕ)) (at : ℕ) (l : List ℕ)
    → entered (on_head m (clipped k) os at l) (at + length l) ≡ entered (on_head m k os at l) (at + length l)
unfolding on_head scanned clipped enter enters
head_clipped m k os at l =
    by_test (same crlf l)
    (λ h. rw h (ap (listed (ev header_line at (length l) Unsaid)) (begun_clipped m k.encoding k.boundary os (at + length l))))
    (λ h.
    rw h
    (ap (λ (x : Known). listed (ev header_line at (length l) Unsaid) (goes_on (fresh (reads (phase.head m x os)))))
    (clipped_again (first_encoding k.encoding l) k.type_seen k.boundary l)))

module _ (set : Settings) where
  -- ---- the three reads that are taken in pieces
  module _ (m : Mail) (b : List ℕ) (os : List (List ℕ)) (from : ℕ) where
    pub under_preamble : Under set (piece_of (word (dash b))) (is_mark (word (dash b))) (λ here l. ends_with crlf l) (in_preamble m b os from) (λ to. on_preamble m b os)
    unfolding takes does
    under_preamble = record { takes = λ u s. refl; does = λ u at l. refl }

    pub under_content : (e : Encoding)
        → Under set (piece_of (word (dash b))) (is_mark (word (dash b))) (λ here l. ends_with crlf l) (in_content m e b os from) (λ to. on_content m e b os from (to - from))
    unfolding takes does
    under_content e = record { takes = λ u s. refl; does = λ u at l. refl }

  pub under_literal : (e : Encoding) (from : ℕ)
      → Under set {U = ℕ} (λ left s. fetch (bytes 0) s) (λ left l. eqb left 0) (λ left l. left - 1) (in_literal e from) (λ to. on_literal e from (to - from))
  unfolding takes does
  under_literal e from = record { takes = λ u s. refl; does = λ u at l. refl }

  so_long : (at : ℕ) (p : List ℕ) → at + length p - at ≡ length p
  so_long at p = omega arith

  module _ (at : ℕ) where
    literal_course : (e : Encoding) (n : ℕ) → Course set (reads (phase.literal e n)) at
    unfolding enter enters need wants strictly is_bare react reacts stand_result stand_place result_of place_of
    literal_course e n =
        in_pieces set (reads (phase.literal e n)) at by_bytes (under_literal e at) n refl (λ s. refl)
        (λ p. ap (on_literal e at) (so_long at p)) (λ v. refl) (λ v to. refl)

    content_course : (m : Mail) (e : Encoding) (b : List ℕ) (os : List (List ℕ)) → Course set (reads (phase.content m e b os)) at
    unfolding enter enters need wants strictly is_bare react reacts stand_result stand_place result_of place_of
    content_course m e b os =
        in_pieces set (reads (phase.content m e b os)) at (by_lines (word_marks (dash b) (omega arith))) (under_content m b os at e) true refl (delimited b)
        (λ p. ap (on_content m e b os at) (so_long at p)) (λ v. refl) (λ v to. refl)

    preamble_course : (m : Mail) (b : List ℕ) (os : List (List ℕ)) (long : Bool) → ltb longest (length b) ≡ long → Course set (reads (phase.preamble m b os)) at
    unfolding enter enters opens need wants strictly is_bare react reacts stand_result stand_place result_of place_of
    preamble_course m b os true h = too_long (rw h)
    preamble_course m b os false h =
        in_pieces set (reads (phase.preamble m b os)) at (by_lines (word_marks (dash b) (omega arith))) (under_preamble m b os at) true (rw h) (delimited b)
        (λ p. refl) (λ v. refl) (λ v to. refl)

  head_with : (m : Mail) (k : Known) (os : List (List ℕ)) (at : ℕ) (l : List ℕ)
      → entered (react_with set (reads (phase.head m (clipped k) os)) at l) (at + length l) ≡ entered (react_with set (reads (phase.head m k os)) at l) (at + length l)
  unfolding strictly is_bare need wants react reacts
  head_with m k os at l = by_test (not (ends_with crlf l) && set.strict) (λ h. rw h) (λ h. rw h (head_clipped m k os at l))

  -- ---- every read of document 01
  phase_course : (ph : Phase) (at : ℕ) → Course set (reads ph) at
  unfolding enter enters need wants react reacts result_of place_of
  phase_course phase.hello at = plainly set (reads phase.hello) at refl
  phase_course phase.second at = plainly set (reads phase.second) at refl
  phase_course phase.user at = plainly set (reads phase.user) at refl
  phase_course phase.password at = plainly set (reads phase.password) at refl
  phase_course phase.sender at = plainly set (reads phase.sender) at refl
  phase_course phase.seeking at = plainly set (reads phase.seeking) at refl
  phase_course phase.recipient at = plainly set (reads phase.recipient) at refl
  phase_course phase.reply at = plainly set (reads phase.reply) at refl
  phase_course phase.status at = plainly set (reads phase.status) at refl
  phase_course phase.command at = plainly set (reads phase.command) at refl
  phase_course (phase.offered size) at = plainly set (reads (phase.offered size)) at refl
  phase_course phase.closing at = plainly set (reads phase.closing) at refl
  phase_course (phase.head m k os) at =
      at_once set (reads (phase.head m k os)) at (reads (phase.head m (clipped k) os)) refl refl refl refl (λ p. head_with m k os at p)
  phase_course (phase.text m e) at = plainly set (reads (phase.text m e)) at refl
  phase_course (phase.literal e n) at = literal_course at e n
  phase_course (phase.preamble m b os) at = preamble_course at m b os (ltb longest (length b)) refl
  phase_course (phase.opened m b os) at = plainly set (reads (phase.opened m b os)) at refl
  phase_course (phase.content m e b os) at = content_course at m e b os
  phase_course (phase.between m b os) at = plainly set (reads (phase.between m b os)) at refl
  phase_course (phase.skipping m b os) at = plainly set (reads (phase.skipping m b os)) at refl
  phase_course (phase.resting m b os n) at = plainly set (reads (phase.resting m b os n)) at refl

  pub course : (st : State) (at : ℕ) → Course set st at
  unfolding enter
  course (reads ph) at = phase_course ph at
  course (ends r p) at = plainly set (ends r p) at refl
