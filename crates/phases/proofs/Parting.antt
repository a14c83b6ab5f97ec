-- Multiparts by windows: copies of boundaries, the search for a delimiter by lines, and what follows a delimiter and a close.
-- Assumes nothing.
use mathlib.Core.Path.{◌≡◌, refl, sym, ap, subst, ◌∙◌}
use mathlib.Core.Bool.{Bool, true, false, cond}
use mathlib.Core.List.{List, [], ◌∷◌, ◌++◌}
use mathlib.Core.Logic.{◌⊎◌, inl, inr}
use Prim.Native.Nat.{ℕ, zero, suc, ◌+◌, ◌-◌, ◌*◌, ◌≤◌, ◌<◌, min}
use native.Mathlib.Numerals.{add-one}
use native.Mathlib.Omega.{arith}
use lib.Dec.{eqb, leb, ltb}
use lib.ListN.{length, take, drop, get_or, set, length-set, length-drop}
use lib.Seq.{take-suc, take-suc-set, take-set-le, drop-set-add, drop-set-lt, get_or-set_same, get_or-set_other, take_all, drop-drop, get_or-drop}
use borrow.Author.Tests.{eqb-true, eqb-false, ne_eqb, leb-true, leb-false, ltb-true, ltb-false, lt-ltb, le-ltb}
use Rattle.events.specs.Events.{part_body}
use Rattle.events.specs.Table.{pour}
use Rattle.events.specs.declared.Encoding.{Encoding}
use Rattle.events.specs.declared.Log.{Log}
use Rattle.events.specs.declared.Outcome.{Outcome}
use Rattle.events.specs.declared.Outcome.TheVariants.{BadDelimiter, Incomplete}
use Rattle.fields.specs.Common.{part, unknown}
use Rattle.reading.proofs.Places.{by_test}
use Rattle.reading.proofs.Words.{rest_is}
use Rattle.reading.specs.Blocks.{Last}
use Rattle.reading.specs.Bytes.{holds, starts_with, same, ends_with, first_place}
use Rattle.reading.specs.Reading.{crlf, dash, delimits, a_line, bytes, delimiter, past, reach, Got, got, short, parted, fetch}
use Rattle.std.proofs.lemmas.Option.{none-some, cond_some}
use Rattle.std.specs.Prelude.{Option, Some, None, Ok}
use Rattle.reads.proofs.Laws.{ends_at, stops_at}
use Rattle.reads.specs.Clauses.{Ends, Stops, Pair, NoPair, TwoIs, Begins}
use Rattle.reads.specs.declared.Two.{Two}
use Rattle.reads.specs.declared.Two.TheVariants.{Crlf, Hyphens, Other}
use Rattle.rules.specs.Machine.{Reaction, stay, before}
use Rattle.rules.specs.Mail.{hyphens, rest, outermost, by_rest, skip, popped, last_line, whole, content_length, on_preamble, on_opened, on_content, on_between, on_skipping, on_resting}
use Rattle.rules.specs.Phases as phase
use Rattle.rules.specs.Phases.{State, reads, ends, then, stop}
use Rattle.rules.specs.Sessions.{reacts}
use Rattle.rules.specs.declared.Mail.{Mail}
use Rattle.rules.specs.declared.Settings.{Settings}
use Rattle.windows.proofs.Courses.{taking, pieces_short, pieces_got}
use Rattle.windows.proofs.Delimiters.{word_marks, delimited}
use Rattle.windows.proofs.Marks.{Marks, Lined, lined, no_line, ends_same, got_none, Way, marked, line, way, by_lines, up_to}
use Rattle.windows.proofs.Piecemeal.{onto, Under, Comes, comes}
use Rattle.windows.specs.Pieces.{Mark, word, or_else, standing, piece_of, is_at, is_mark}
use Rattle.windows.specs.Stands.{Stand, in_preamble, in_content, copied, clipped, enters, enter, goes_on, takes, does, pieces}
use Rattle.windows.specs.Windows.{over, keeps, landed, lands}
use Rattle.phases.proofs.Turning.{to_end, leads_still}
use Rattle.phases.proofs.Heading.{begins_later}
use Rattle.phases.specs.Phasing.{slot, outside, Kept, unheard, state_of, Fits, Enters, Piece, Leaves, Goes, ByLines, Found, Waits, short_of}
use Rattle.phases.specs.declared.Heard.{Heard}
use Rattle.phases.specs.declared.Phase.{Phase}
use Rattle.phases.specs.declared.Phase.TheVariants as is

-- ---- a boundary is copied byte by byte: j of its n bytes so far
pub record Copying (k : List ℕ) (i : ℕ) (b : List ℕ) (n j : ℕ) (k' : List ℕ) : Type 0 where
  pub within : j ≤ n
  pub long : length k' ≡ length k
  pub front : take (i * 72) k' ≡ take (i * 72) k
  pub so : take j (drop (i * 72 + 1) k') ≡ take j b
  pub lengths : (x : ℕ) → get_or k' (x * 72) 0 ≡ get_or k (x * 72) 0

pub none_copied : {k : List ℕ} {i : ℕ} {b : List ℕ} {n : ℕ} → Copying k i b n 0 k
none_copied = record { within = omega arith; long = refl; front = refl; so = refl; lengths = λ x. refl }

short_take : (b : List ℕ) (n : ℕ) → n ≡ min (length b) 71 → take n b ≡ take 71 b
short_take b n h =
    by_test (ltb (length b) 71)
    (λ t. take_all n b (omega (arith, ltb-true (length b) 71 t)) ∙ sym (take_all 71 b (omega (arith, ltb-true (length b) 71 t))))
    (λ t. let e : n ≡ 71 = omega (arith, ltb-false (length b) 71 t) in rw e)

module _ {k : List ℕ} {i : ℕ} {b : List ℕ} {n : ℕ} {j : ℕ} {k' : List ℕ} (room : i * 72 + 72 ≤ length k) (clip : n ≡ min (length b) 71)
    (c : Copying k i b n j k') where
  pub copied_on : j < n → Copying k i b n (j + 1) (set k' (i * 72 + 1 + j) (get_or b j 0))
  copied_on h = record {
    within = omega arith;
    long = length-set k' (i * 72 + 1 + j) (get_or b j 0) ∙ c.long;
    front = take-set-le (i * 72) k' (i * 72 + 1 + j) (get_or b j 0) (omega arith) ∙ c.front;
    so =
        let l = drop (i * 72 + 1) k' in
        let o : j < length l = omega (arith, length-drop (i * 72 + 1) k', c.long) in
        let e : take (suc j) (set l j (get_or b j 0)) ≡ take (suc j) b =
        take-suc-set l j (get_or b j 0) o ∙ ap (λ (x : List ℕ). x ++ (get_or b j 0 ∷ [])) c.so ∙ sym (take-suc b j 0 (omega arith)) in
        rw (drop-set-add (i * 72 + 1) k' j (get_or b j 0), add-one) e;
    lengths = λ x. get_or-set_other k' (i * 72 + 1 + j) (x * 72) (get_or b j 0) 0 (λ q. absurd (omega arith)) ∙ c.lengths x;
  }

  -- all of them, and the length before them
  pub copied_all : n ≤ j → (o : ℕ) → o ≡ i * 72 → Kept k i b (set k' o n)
  copied_all h o z =
      let q : j ≡ n = omega (arith, c.within) in
      rw z (record {
        long = length-set k' (i * 72) n ∙ c.long;
        front = take-set-le (i * 72) k' (i * 72) n (omega arith) ∙ c.front;
        is = rw (get_or-set_same k' (i * 72) n 0 (omega (arith, c.long)), drop-set-lt (i * 72 + 1) k' (i * 72) n (omega arith)) (rw q at c.so ∙ short_take b n clip);
        own = rw (get_or-set_same k' (i * 72) n 0 (omega (arith, c.long))) (omega arith);
        others = λ x g. get_or-set_other k' (i * 72) (x * 72) n 0 (λ q'. g (omega arith)) ∙ c.lengths x;
      })

-- ---- copies that are kept
pub outermost_slot : (k : List ℕ) (i : ℕ) → outermost (slot k i) (outside k i) ≡ slot k 0
unfolding outermost outside
outermost_slot k zero = refl
outermost_slot k (suc i) = outermost_slot k i

-- ---- the last LF stands before r, or there is none and r is 0
record LastLf (s : List ℕ) (r : ℕ) : Type 0 where
  within : r ≤ length s
  stands : 0 < r → get_or s (r - 1) 0 ≡ 10
  none : (j : ℕ) → r ≤ j → j < length s → eqb (get_or s j 0) 10 ≡ false

last_lf : (s : List ℕ) (r : ℕ) → Last (holds 10 s) s r → LastLf s r
unfolding holds
last_lf s r d = record { within = d.passed.on; stands = λ o. eqb-true (get_or s (r - 1) 0) 10 (d.passes o); none = d.passed.none }

-- ---- lines up to a mark, where none is found: it waits behind the last LF
last_behind : (s l r : List ℕ) (q : ℕ) → Lined s l r → LastLf s q → (length l ≤ q) × LastLf r (q - length l)
last_behind s l r q d h =
    let after : length l ≤ q =
    by_test (leb (length l) q) (λ t. leb-true (length l) q t)
    (λ t.
    let o : q ≤ length l - 1 = omega (arith, leb-false (length l) q t) in
    absurd (eqb-false (get_or s (length l - 1) 0) 10 (h.none (length l - 1) o (omega (arith, d.room, d.long))) d.end)) in
    let at : (k : ℕ) → get_or r k 0 ≡ get_or s (length l + k) 0 = λ k. ap (λ (x : List ℕ). get_or x k 0) (sym d.back) ∙ get_or-drop (length l) s k 0 in (
      after,
      record {
        within = omega (arith, h.within, d.room);
        stands = λ o.
            at (q - length l - 1)
            ∙ ap (λ (k : ℕ). get_or s k 0) (let e : length l + (q - length l - 1) ≡ q - 1 = omega arith in e)
            ∙ h.stands (omega arith);
        none = λ j a b. ap (λ (x : ℕ). eqb x 10) (at j) ∙ h.none (length l + j) (omega arith) (omega (arith, d.room));
      },
    )

none_last : (s : List ℕ) (q : ℕ) → LastLf s q → fetch a_line s ≡ short → q ≡ 0
none_last s q d h =
    by_test (eqb q 0) (λ t. eqb-true q 0 t)
    (λ t.
    let o : 0 < q = omega (arith, eqb-false q 0 t) in
    absurd (eqb-false (get_or s (q - 1) 0) 10 (no_line s h (q - 1) (omega (arith, d.within))) (d.stands o)))

onto_short : (l : List ℕ) (g : Got) → onto l g ≡ short → g ≡ short
unfolding onto
onto_short l (got p r) h = absurd (got_none (sym h))
onto_short l short h = refl

-- whether a mark may stand at q
abbrev there : Bool → List ℕ → ℕ → Bool
there here s q = cond (eqb q 0) here (ends_with crlf (take q s))

there_behind : (here : Bool) (s l r : List ℕ) (q : ℕ) → Lined s l r → length l ≤ q → q ≤ length s → there (ends_with crlf l) r (q - length l) ≡ there here s q
there_behind here s l r q d h g =
    let n : eqb q 0 ≡ false = ne_eqb q 0 (λ e. omega (arith, d.long)) in
    let y : length l + (q - length l) ≡ q = omega arith in
    by_test (eqb (q - length l) 0)
    (λ z. let e : q ≡ length l = omega (arith, eqb-true (q - length l) 0 z) in rw (z, n) (sym (ap (ends_with crlf) (ap (λ (k : ℕ). take k s) e ∙ d.front))))
    (λ z.
    let o : 0 < q - length l = omega (arith, eqb-false (q - length l) 0 z) in
    rw (z, n) (sym (ends_same s l r d (q - length l) o (omega (arith, d.room))) ∙ ap (λ (k : ℕ). ends_with crlf (take k s)) y))

short_line : (mark : Mark) (here : Bool) (s : List ℕ) → piece_of mark here s ≡ short → fetch a_line s ≡ short
unfolding piece_of or_else parted fetch
short_line mark here s e = by_standing (standing mark here s) e
  where
    by_standing : (x : Option ℕ) → parted s (or_else x (reach a_line s)) ≡ short → fetch a_line s ≡ short
    by_standing (Some n) g = absurd (got_none (sym g))
    by_standing None g = g

module _ {settings : Settings} {mark : Mark} (laws : Marks mark) {f : Bool → Stand} {end : ℕ → Reaction State}
    (under : Under settings (piece_of mark) (is_mark mark) (λ here l. ends_with crlf l) f end) where
  goes_on_lem : (here : Bool) (at : ℕ) (s l r : List ℕ) → piece_of mark here s ≡ got l r → is_mark mark here l ≡ false
      → pieces settings (f here) at s ≡ pieces settings (f (ends_with crlf l)) (at + length l) r
  goes_on_lem here at s l r e i =
      let d : does settings (f here) at l ≡ goes_on (f (ends_with crlf l)) = under.does here at l ∙ rw i in
      pieces_got settings (f here) at s l r (under.takes here s ∙ e) ∙ ap (λ (x : Reaction Stand). before x.events (pieces settings x.next (at + length l) r)) d

  by_piece : (here : Bool) (at : ℕ) (s : List ℕ) (q : ℕ) → LastLf s q → up_to mark here s ≡ short
      → ((v : Bool) (to : ℕ) (r : List ℕ) (x : ℕ) → length r < length s → LastLf r x → up_to mark v r ≡ short
      → pieces settings (f v) to r ≡ stay (f (there v r x)) (to + x) (drop x r))
      → (g : Got) → piece_of mark here s ≡ g → pieces settings (f here) at s ≡ stay (f (there here s q)) (at + q) (drop q s)
  by_piece here at s q d e ih short g =
      let z : q ≡ 0 = none_last s q d (short_line mark here s g) in
      let a : at + 0 ≡ at = omega arith in
      rw (z, a) (pieces_short settings (f here) at s (under.takes here s ∙ g))
  by_piece here at s q d e ih (got l r) g = by_way (way laws here s l r g)
    where
      by_way : Way laws here s l r → pieces settings (f here) at s ≡ stay (f (there here s q)) (at + q) (drop q s)
      by_way (marked n h a b x j) = absurd (got_none (sym e ∙ (by_lines laws).ends here s l r g j))
      by_way (line h k j) =
          let c : Lined s l r = lined s l r k in
          let m = last_behind s l r q c d in
          let u : up_to mark (ends_with crlf l) r ≡ short = onto_short l (up_to mark (ends_with crlf l) r) (sym ((by_lines laws).on here s l r g j) ∙ e) in
          let n : at + length l + (q - length l) ≡ at + q = omega (arith, m.0) in
          let y : length l + (q - length l) ≡ q = omega (arith, m.0) in
          let v : drop (q - length l) r ≡ drop q s =
          ap (drop (q - length l)) (sym c.back) ∙ drop-drop (q - length l) (length l) s ∙ ap (λ (x : ℕ). drop x s) y in
          goes_on_lem here at s l r g j
          ∙ ih (ends_with crlf l) (at + length l) r (q - length l) (omega (arith, c.room, c.long)) m.1 u
          ∙ rw (n, v, there_behind here s l r q c m.0 d.within)

  upto : (n : ℕ) (here : Bool) (at : ℕ) (s : List ℕ) (q : ℕ) → length s < n → LastLf s q → up_to mark here s ≡ short
      → pieces settings (f here) at s ≡ stay (f (there here s q)) (at + q) (drop q s)
  upto zero here at s q h d e = absurd (omega arith)
  upto (suc n) here at s q h d e = by_piece here at s q d e (λ v to r x i j k. upto n v to r x (omega arith) j k) (piece_of mark here s) refl

  waits_behind : (here : Bool) (at : ℕ) (s : List ℕ) (q : ℕ) → LastLf s q → up_to mark here s ≡ short
      → pieces settings (f here) at s ≡ stay (f (there here s q)) (at + q) (drop q s)
  waits_behind here at s q d e = upto (suc (length s)) here at s q (omega arith) d e

-- ---- a delimiter may stand at p: what the search finds
lines_under : {settings : Settings} {b : List ℕ} {f : Bool → Stand} {end : ℕ → Reaction State} → ByLines settings b f end
    → Under settings (piece_of (word (dash b))) (is_mark (word (dash b))) (λ here l. ends_with crlf l) f end
lines_under u = record { takes = u.takes; does = u.does }

found_ends : {w : List ℕ} {p : ℕ} {b : List ℕ} {e : ℕ} → Ends (delimiter b) w p e → Found w p b true e
unfolding Comes
found_ends {w} {p} {b} {e} d = record {
  on = d.on;
  within = d.within;
  is = λ settings f end u base.
      let P = by_lines (word_marks (dash b) (omega arith)) in
      let g : Comes settings taking P (lines_under u) true (base + p) (drop p w) (got (part w p e) (drop e w)) =
      subst (Comes settings taking P (lines_under u) true (base + p) (drop p w)) (delimited b (drop p w) ∙ d.is)
      (comes settings taking P (lines_under u) true (base + p) (drop p w)) in
      record { on = d.on; within = d.within; is = rw (to_end base d) at g };
}

module _ (w : List ℕ) (p : ℕ) (b : List ℕ) (h : p ≤ length w) where
  pub delimiter_ends : {q : ℕ} → Some q ≡ first_place (delimits b (part w p (length w))) (part w p (length w)) → Ends (delimiter b) w p (p + q + 2 + length b)
  unfolding reach past
  delimiter_ends {q} i =
      let j : Some q ≡ first_place (delimits b (drop p w)) (drop p w) = rw (rest_is w p) at i in
      let n : p + (q + length (dash b)) ≡ p + q + 2 + length b = omega arith in
      subst (Ends (delimiter b) w p) n (ends_at (delimiter b) w p (q + length (dash b)) h (rw (← j)))

  pub search_found : {q : ℕ} → Some q ≡ first_place (delimits b (part w p (length w))) (part w p (length w)) → Found w p b true (p + q + 2 + length b)
  search_found i = found_ends (delimiter_ends i)

  module _ (i : None ≡ first_place (delimits b (part w p (length w))) (part w p (length w))) {n : ℕ} (d : Last (holds 10 (part w p (length w))) (part w p (length w)) n) where
    vain : up_to (word (dash b)) true (drop p w) ≡ short
    unfolding fetch reach past parted
    vain = let j : None ≡ first_place (delimits b (drop p w)) (drop p w) = rw (rest_is w p) at i in delimited b (drop p w) ∙ rw (← j)

    last : LastLf (drop p w) n
    last = last_lf (drop p w) n (rw (rest_is w p) at d)

    search_waits : Waits w p b true (p + n) (there true (drop p w) n)
    search_waits = record {
      on = omega arith;
      within = omega (arith, last.within, length-drop p w);
      is = λ settings f end u base.
          let m : base + p + n ≡ base + (p + n) = omega arith in
          waits_behind (word_marks (dash b) (omega arith)) (lines_under u) true (base + p) (drop p w) n last vain ∙ rw (m, drop-drop n p w);
    }

    -- no line is finished
    pub search_stays : n ≡ 0 → Waits w p b true p true
    search_stays z = let e : p + 0 ≡ p = omega arith in rw (z, e) at search_waits

    -- behind the last line
    pub search_behind : (n ≡ 0 → ⊥) → {r : Bool} → r ≡ ends_with crlf (part w p (p + n)) → Waits w p b true (p + n) r
    search_behind z {r} q =
        let e : p + n - p ≡ n = omega arith in
        let y : there true (drop p w) n ≡ r = rw (ne_eqb n 0 z) (sym (q ∙ rw e)) in
        subst (Waits w p b true (p + n)) y search_waits

-- ---- none may stand at p: lines are passed. What is left at q is what was left at p
pub record Passed (w : List ℕ) (p : ℕ) (b : List ℕ) (here : Bool) (q : ℕ) (there : Bool) : Type 0 where
  pub on : p ≤ q
  pub within : q ≤ length w
  pub is : (settings : Settings) (f : Bool → Stand) (end : ℕ → Reaction State) → ByLines settings b f end
      → (base : ℕ) → pieces settings (f here) (base + p) (drop p w) ≡ pieces settings (f there) (base + q) (drop q w)

not_mark : (mark : Mark) (l : List ℕ) → is_mark mark false l ≡ false
unfolding is_mark is_at standing
not_mark mark l = refl

just_line : (mark : Mark) (s : List ℕ) → piece_of mark false s ≡ fetch a_line s
unfolding piece_of standing or_else fetch
just_line mark s = refl

module _ {w : List ℕ} {p : ℕ} {b : List ℕ} {here : Bool} {q : ℕ} {there : Bool} (d : Passed w p b here q there) where
  pub passed_line : {e : ℕ} {r : Bool} → there ≡ false → Ends a_line w q e → r ≡ ends_with crlf (part w q e) → Passed w p b here e r
  passed_line {e} {r} t c i = record {
    on = omega (arith, d.on, c.on);
    within = c.within;
    is = λ settings f end u base.
        d.is settings f end u base
        ∙ ap (λ (x : Bool). pieces settings (f x) (base + q) (drop q w)) t
        ∙ goes_on_lem (word_marks (dash b) (omega arith)) (lines_under u) false (base + q) (drop q w) (part w q e) (drop e w)
        (just_line (word (dash b)) (drop q w) ∙ c.is) (not_mark (word (dash b)) (part w q e))
        ∙ rw (to_end base c, i);
  }

  pub passed_waits : {o : Outcome} → there ≡ false → Stops a_line w q o → Waits w p b here q there
  unfolding fetch parted
  passed_waits t c = record {
    on = d.on;
    within = d.within;
    is = λ settings f end u base.
        d.is settings f end u base
        ∙ pieces_short settings (f there) (base + q) (drop q w)
        (u.takes there (drop q w) ∙ ap (λ (x : Bool). piece_of (word (dash b)) x (drop q w)) t ∙ just_line (word (dash b)) (drop q w) ∙ rw c.short);
  }

-- ---- preambles and contents
preamble_lines : {settings : Settings} (m : Mail) (b : List ℕ) (os : List (List ℕ)) (from : ℕ) → ByLines settings b (in_preamble m b os from) (λ to. on_preamble m b os)
unfolding takes does
preamble_lines m b os from = record { takes = λ u s. refl; does = λ u at l. refl }

content_lines : {settings : Settings} (m : Mail) (e : Encoding) (b : List ℕ) (os : List (List ℕ)) (from : ℕ)
    → ByLines settings b (in_content m e b os from) (λ to. on_content m e b os from (to - from))
unfolding takes does
content_lines m e b os from = record { takes = λ u s. refl; does = λ u at l. refl }

module _ {settings : Settings} {w : List ℕ} (base : ℕ) {p : ℕ} (k : List ℕ) (m : Mail) (i from : ℕ) (here : Bool) (h : i ≤ 7) (g : from ≤ base + p) (j : Begins m (base + p)) where
  pub preamble_waits : {t : List ℕ} {log : Log} {q : ℕ} {there : Bool} → Waits w p (slot k i) here q there
      → Goes settings w base p k t log (state_of k (is.Preamble m i from here)) (record { phase = is.Preamble m i from there; taken = q; log = log }) t
  unfolding state_of Fits lands landed pour keeps over
  preamble_waits {t} {log} {q} d = record {
    within = d.within;
    fits = (h, omega (arith, d.on), begins_later (base + q) j (omega (arith, d.on)));
    is = sym (ap (lands base t log) (d.is settings (in_preamble m (slot k i) (outside k i) from) (λ to. on_preamble m (slot k i) (outside k i))
        (preamble_lines m (slot k i) (outside k i) from) base));
  }

  pub preamble_found : {t : List ℕ} {log : Log} {e : ℕ} → Found w p (slot k i) here e
      → Leaves settings w base p k t log (state_of k (is.Preamble m i from here)) (record { phase = is.Opened m i; taken = e; log = log }) t
  unfolding state_of Fits enter enters on_preamble
  preamble_found {t} {log} {e} d =
      leads_still (d.is settings (in_preamble m (slot k i) (outside k i) from) (λ to. on_preamble m (slot k i) (outside k i))
      (preamble_lines m (slot k i) (outside k i) from) base) refl
      (record { is = refl; fits = (h, begins_later (base + e) j (omega (arith, d.on))) })

  module _ (c : Encoding) where
    pub content_waits : {t : List ℕ} {log : Log} {q : ℕ} {there : Bool} → Waits w p (slot k i) here q there
        → Goes settings w base p k t log (state_of k (is.Content m c i from here)) (record { phase = is.Content m c i from there; taken = q; log = log }) t
    unfolding state_of Fits lands landed pour keeps over
    content_waits {t} {log} {q} d = record {
      within = d.within;
      fits = (h, omega (arith, d.on), begins_later (base + q) j (omega (arith, d.on)));
      is = sym (ap (lands base t log) (d.is settings (in_content m c (slot k i) (outside k i) from) (λ to. on_content m c (slot k i) (outside k i) from (to - from))
          (content_lines m c (slot k i) (outside k i) from) base));
    }

    -- its piece: the content, and its stop
    pub content_piece : {e n : ℕ} → n ≡ length (slot k i) → Found w p (slot k i) here e
        → Piece settings w base p (state_of k (is.Content m c i from here)) e (then (whole part_body c from (base + e - from - (n + 4))) (phase.between m (slot k i) (outside k i)))
    unfolding state_of on_content content_length
    content_piece {e} {n} l d = rw l (d.is settings (in_content m c (slot k i) (outside k i) from) (λ to. on_content m c (slot k i) (outside k i) from (to - from))
        (content_lines m c (slot k i) (outside k i) from) base)

pub enters_between : (k : List ℕ) (m : Mail) (i to : ℕ) → i ≤ 7 → Begins m to → Enters k (reads (phase.between m (slot k i) (outside k i))) to (is.Between m i)
unfolding state_of Fits enter enters
enters_between k m i to h g = record { is = refl; fits = (h, g) }

-- ---- the two bytes behind a delimiter
module _ {w : List ℕ} {p : ℕ} (m : Mail) (b : List ℕ) (os : List (List ℕ)) (at : ℕ) where
  pub opened_crlf : Pair w p crlf → reacts (phase.opened m b os) at (part w p (p + 2)) ≡ then [] (phase.head m unknown (b ∷ os))
  unfolding reacts on_opened same starts_with
  opened_crlf d = rw d.is

  pub between_crlf : Pair w p crlf → reacts (phase.between m b os) at (part w p (p + 2)) ≡ then [] (phase.head m unknown (b ∷ os))
  unfolding reacts on_between same starts_with
  between_crlf d = rw d.is

  pub between_hyphens : Pair w p hyphens → reacts (phase.between m b os) at (part w p (p + 2)) ≡ record { events = []; next = skip m b os (at + 2) }
  unfolding reacts on_between same starts_with
  between_hyphens d = rw d.is

  pub between_other : NoPair w p → reacts (phase.between m b os) at (part w p (p + 2)) ≡ stop [] BadDelimiter at
  unfolding reacts on_between
  between_other d = rw (d.no_hyphens, d.no_crlf)

pub opened_not : (w : List ℕ) (p : ℕ) (m : Mail) (b : List ℕ) (os : List (List ℕ)) (at : ℕ) (x : Two) → (x ≡ Hyphens) ⊎ (x ≡ Other) → TwoIs w p (Ok x)
    → reacts (phase.opened m b os) at (part w p (p + 2)) ≡ stop [] BadDelimiter at
unfolding reacts on_opened same starts_with
opened_not w p m b os at Crlf h d = absurd (elim h [ inl e ↦ absurd cc | inr e ↦ absurd cc ])
opened_not w p m b os at Hyphens h d = rw d.is
opened_not w p m b os at Other h d = rw d.no_crlf

-- a part's header
pub enters_part : (k : List ℕ) (m : Mail) (i to : ℕ) {x : Heard} → x ≡ unheard → i ≤ 7 → Begins m to
    → Enters k (reads (phase.head m unknown (slot k i ∷ outside k i))) to (is.Head m x (i + 1))
unfolding state_of enter enters clipped copied outside Fits
enters_part k m i to {x} e h g = rw e (record { is = rw add-one; fits = (omega arith, g) })

pub enters_over : (k : List ℕ) (o : Outcome) (at to : ℕ) → Enters k (ends o at) to (is.Over o at)
unfolding state_of enter Fits
enters_over k o at to = record { is = refl; fits = tt }

-- two ways to say where
pub enters_behind : (base p n : ℕ) (k : List ℕ) (st : ℕ → State) (r : Phase) → Enters k (st (base + p + n)) (base + p + n) r
    → Enters k (st (base + p + n)) (base + (p + n)) r
enters_behind base p n k st r d = let z : base + p + n ≡ base + (p + n) = omega arith in subst (λ (to : ℕ). Enters k (st (base + p + n)) to r) z d

-- ---- behind a close: the literal's rest, if it is below n
module _ (m : Mail) (b : List ℕ) (os : List (List ℕ)) (n : ℕ) (l : n ≡ length (outermost b os)) where
  rest_on : (x left : ℕ) → short_of x n ≡ Some left → by_rest m b os x ≡ reads (phase.resting m b os left)
  unfolding by_rest
  rest_on zero left e = absurd (none-some left e)
  rest_on (suc x) left e = let y = cond_some (ltb (suc x) n) x left e in rw (← l, y.0, y.1)

  lines_on : (x : ℕ) → short_of x n ≡ None → by_rest m b os x ≡ reads (phase.skipping m b os)
  unfolding by_rest
  lines_on zero e = refl
  lines_on (suc x) e =
      by_test (ltb (suc x) n)
      (λ t. let y : Some x ≡ None = rw t at e in absurd (none-some x (sym y)))
      (λ t. rw (← l, t))

module _ (k : List ℕ) (m : Mail) {i : ℕ} (to : ℕ) (h : i ≤ 7) (g : Begins m to) {n : ℕ} (l : n ≡ length (slot k 0)) where
  pub enters_resting : {left : ℕ} → short_of (rest m to) n ≡ Some left → Enters k (skip m (slot k i) (outside k i) to) to (is.Resting m i left)
  unfolding skip state_of enter enters Fits
  enters_resting {left} e = record { is = rw (rest_on m (slot k i) (outside k i) n (l ∙ sym (ap length (outermost_slot k i))) (rest m to) left e); fits = (h, g) }

  -- lines are skipped
  pub skips_on : short_of (rest m to) n ≡ None → enter (skip m (slot k i) (outside k i) to) to ≡ state_of k (is.Skipping m i)
  unfolding skip state_of enter enters
  skips_on e = rw (lines_on m (slot k i) (outside k i) n (l ∙ sym (ap length (outermost_slot k i))) (rest m to) e)

  pub enters_skipping : short_of (rest m to) n ≡ None → Enters k (skip m (slot k i) (outside k i) to) to (is.Skipping m i)
  unfolding Fits
  enters_skipping e = record { is = sym (skips_on e); fits = (h, g) }

-- ---- a line behind a close, and the literal's rest
pub outermost_is : (k : List ℕ) (i : ℕ) (m : Mail) (l : List ℕ) {x : Bool} → last_line m (slot k 0) l ≡ x → last_line m (outermost (slot k i) (outside k i)) l ≡ x
outermost_is k i m l q = rw (outermost_slot k i) q

module _ (base : ℕ) {w : List ℕ} {p e : ℕ} (m : Mail) (b : List ℕ) (os : List (List ℕ)) where
  module _ (d : Ends a_line w p e) where
    pub skipping_last : last_line m (outermost b os) (part w p e) ≡ true
        → reacts (phase.skipping m b os) (base + p) (part w p e) ≡ record { events = []; next = popped m os (base + e) }
    unfolding reacts on_skipping
    skipping_last h = rw (h, to_end base d)

    pub skipping_on : last_line m (outermost b os) (part w p e) ≡ false
        → reacts (phase.skipping m b os) (base + p) (part w p e) ≡ record { events = []; next = skip m b os (base + e) }
    unfolding reacts on_skipping
    skipping_on h = rw (h, to_end base d)

  pub resting_all : (n : ℕ) → Ends (bytes n) w p e → reacts (phase.resting m b os n) (base + p) (part w p e) ≡ record { events = []; next = popped m os (base + e) }
  unfolding reacts on_resting
  resting_all n d = rw (to_end base d)

module _ {w : List ℕ} {p : ℕ} (n : ℕ) (h : p ≤ length w) where
  pub bytes_stop : length w - p ≤ n → Stops (bytes n) w p Incomplete
  unfolding reach
  bytes_stop l = stops_at (bytes n) w p (rw (le-ltb n (length (drop p w)) (omega (arith, length-drop p w))))

  pub bytes_end : n < length w - p → Ends (bytes n) w p (p + n + 1)
  unfolding reach
  bytes_end l =
      let z : p + (n + 1) ≡ p + n + 1 = omega arith in
      subst (Ends (bytes n) w p) z (ends_at (bytes n) w p (n + 1) h (rw (lt-ltb n (length (drop p w)) (omega (arith, length-drop p w)))))

-- ---- behind a close: r is the literal's rest, if it is below n, else 0
module _ (m : Mail) (b : List ℕ) (os : List (List ℕ)) (n : ℕ) (l : n ≡ length (outermost b os)) where
  pub by_rest_lem : (x r : ℕ) → r ≡ cond (ltb x n) x 0 → 0 < r → by_rest m b os x ≡ reads (phase.resting m b os (r - 1))
  unfolding by_rest
  by_rest_lem zero r e h = absurd (by_test (ltb 0 n) (λ t. let z : r ≡ 0 = e ∙ rw t in omega arith) (λ t. let z : r ≡ 0 = e ∙ rw t in omega arith))
  by_rest_lem (suc x) r e h =
      by_test (ltb (suc x) n)
      (λ t.
      let z : r ≡ suc x = e ∙ rw t in
      let y : r - 1 ≡ x = omega arith in
      rw (← l, t, y))
      (λ t. let z : r ≡ 0 = e ∙ rw t in absurd (omega arith))
