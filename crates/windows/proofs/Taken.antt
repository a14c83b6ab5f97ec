-- What a window takes: request W2, 'a window takes all before the unfinished read, of a sized body all its bytes shown, of a preamble or content every
-- finished line; done takes up to its place, a refusal nothing', and what is repeated, and the limit.
-- Assumes nothing.
use mathlib.Core.Path.{◌≡◌, refl, sym, ap, ◌∙◌}
use mathlib.Core.Bool.{Bool, true, false, cond}
use mathlib.Core.List.{List, [], ◌∷◌}
use Prim.Native.Nat.{ℕ, ◌+◌, ◌-◌, ◌≤◌, ◌<◌}
use native.Mathlib.Omega.{arith}
use lib.Dec.{eqb, ltb}
use lib.ListN.{length, drop}
use borrow.Author.Tests.{eq-eqb, lt-ltb}
use Rattle.events.specs.Events.{result_number}
use Rattle.events.specs.Table.{final, Poured, all, full, pour}
use Rattle.events.specs.declared.Encoding.{Encoding}
use Rattle.events.specs.declared.Log.{Log}
use Rattle.events.specs.declared.Outcome.{Outcome}
use Rattle.events.specs.declared.Outcome.TheVariants.{TooLong, TableFull}
use Rattle.reading.specs.Reading.{dash, a_line, bytes, short, reach, parted, fetch}
use Rattle.std.specs.Prelude.{Option, Some, None}
use Rattle.rules.proofs.Changes.{apart}
use Rattle.rules.specs.Machine.{Ran}
use Rattle.rules.specs.Phases.{Phase, reads, ends, need, wants}
use Rattle.rules.specs.Sessions.{limit, result_of, place_of}
use Rattle.rules.specs.declared.Mail.{Mail}
use Rattle.rules.specs.declared.Settings.{Settings}
use Rattle.windows.proofs.Courses.{taking}
use Rattle.windows.proofs.Done.{DoneAt, StandDone, run_done}
use Rattle.windows.proofs.Marks.{got_none}
use Rattle.windows.proofs.Runs as runs
use Rattle.windows.proofs.Sized.{sized_one}
use Rattle.windows.specs.Pieces.{Mark, word, or_else, standing, piece_of}
use Rattle.windows.specs.Stands.{Stand, fresh, in_preamble, in_content, in_literal, takes, does, pieces, stand_result, stand_place}
use Rattle.windows.specs.Windows.{Record, said, over, keeps, Shown, refused, landed, lands, window, taken}

-- ---- pieces that are not there
none_left : (s : List ℕ) → fetch (bytes 0) s ≡ short → s ≡ []
none_left [] e = refl
none_left (x ∷ s) e = absurd (got_none (sym e ∙ sized_one x s))

line_if : (s : List ℕ) (x : Option ℕ) → parted s (or_else x (reach a_line s)) ≡ short → fetch a_line s ≡ short
unfolding or_else parted fetch
line_if s (Some n) e = absurd (got_none (sym e))
line_if s None e = e

no_line : (mark : Mark) (here : Bool) (s : List ℕ) → piece_of mark here s ≡ short → fetch a_line s ≡ short
unfolding piece_of
no_line mark here s e = line_if s (standing mark here s) e

-- ---- a stand that is done
done_none : (f : Stand) (at : ℕ) → over f ≡ false → StandDone f at
unfolding over StandDone DoneAt
done_none (fresh (reads ph)) at h = tt
done_none (fresh (ends o p)) at h = absurd (apart h)
done_none (in_preamble m b os from here) at h = tt
done_none (in_content m e b os from here) at h = tt
done_none (in_literal e from left) at h = tt

done_place : (f : Stand) (at base : ℕ) → result_number (stand_result f) ≡ 0 → StandDone f at
    → stand_place f (cond (keeps f) at base) ≡ cond (keeps f) at base
unfolding stand_result result_of stand_place place_of StandDone DoneAt keeps over
done_place (fresh (reads ph)) at base z d = refl
done_place (fresh (ends o p)) at base z d = let y : eqb (result_number o) 0 ≡ true = eq-eqb (result_number o) 0 z in rw y (d z)
done_place (in_preamble m b os from here) at base z d = absurd (omega arith)
done_place (in_content m e b os from here) at base z d = absurd (omega arith)
done_place (in_literal e from left) at base z d = absurd (omega arith)

module _ (set : Settings) where
  -- ---- the three ways of a window: it repeats; it refuses, the limit or the table being met; it is read, and its events have slots
  pub data Came (r : Record) (t w : List ℕ) : Type 0 where
    again : over r.stand ≡ true → window set r t w ≡ record { next = r; table = t } → Came r t w
    refuses : (u : List ℕ) (o : Outcome) (p : ℕ) (log : Log) → (result_number o ≡ 0 → ⊥) → window set r t w ≡ refused r.at u o p log → Came r t w
    is_read : (u : List ℕ) (log : Log) → over r.stand ≡ false → window set r t w ≡ landed r.at (pieces set r.stand r.at w) (all u log) → Came r t w

  module _ (r : Record) (t w : List ℕ) where
    abbrev g : Shown
    g = window set r t w

    abbrev o : Ran Stand
    o = pieces set r.stand r.at w

    repeated : over r.stand ≡ true → g ≡ record { next = r; table = t }
    unfolding window
    repeated h = rw h

    past : over r.stand ≡ false → ltb limit (r.at + length w) ≡ true → g ≡ refused r.at t TooLong 0 r.log
    unfolding window
    past h l = rw (h, l)

    read_so : over r.stand ≡ false → ltb limit (r.at + length w) ≡ false → g ≡ landed r.at o (pour o.events t r.log)
    unfolding window lands
    read_so h l = rw (h, l)

    by_pour : over r.stand ≡ false → ltb limit (r.at + length w) ≡ false → (x : Poured) → pour o.events t r.log ≡ x → Came r t w
    unfolding landed
    by_pour h l (all u log) e = is_read u log h (read_so h l ∙ ap (landed r.at o) e)
    by_pour h l (full u q log) e = refuses u TableFull q log (λ z. omega arith) (read_so h l ∙ ap (landed r.at o) e)

    by_limit : over r.stand ≡ false → (b : Bool) → ltb limit (r.at + length w) ≡ b → Came r t w
    by_limit h true l = refuses t TooLong 0 r.log (λ z. omega arith) (past h l)
    by_limit h false l = by_pour h l (pour o.events t r.log) refl

    by_over : (b : Bool) → over r.stand ≡ b → Came r t w
    by_over true h = again h (repeated h)
    by_over false h = by_limit h (ltb limit (r.at + length w)) refl

    pub came : Came r t w
    came = by_over (over r.stand) refl

    -- ---- after done or a refusal a window, however long, takes nothing, and the answer is repeated
    pub repeats : over r.stand ≡ true → (g ≡ record { next = r; table = t }) × (taken r g ≡ 0)
    unfolding taken
    repeats h = (repeated h, rw (repeated h) (omega arith))

    -- ---- the limit is on the session: 2 before the window is read, place 0, earlier events kept; and nothing is taken
    pub past_limit : over r.stand ≡ false → limit < r.at + length w
        → (said g.next g.table ≡ final t TooLong 0 r.log.count) × (taken r g ≡ 0) × (over g.next.stand ≡ true)
    unfolding taken said refused over stand_result result_of stand_place place_of
    past_limit h l =
        let e : g ≡ refused r.at t TooLong 0 r.log = past h (lt-ltb limit (r.at + length w) l) in
        (rw e, rw e (omega arith), rw e)

    -- ---- a refusal takes nothing
    pub refusal_takes_nothing : keeps g.next.stand ≡ false → taken r g ≡ 0
    unfolding taken refused landed
    refusal_takes_nothing k = by_way came
      where
        by_way : Came r t w → taken r g ≡ 0
        by_way (again h e) = rw e (omega arith)
        by_way (refuses u x p log n e) = rw e (omega arith)
        by_way (is_read u log h e) = let f : keeps o.state ≡ false = rw e at k in rw (e, f) (omega arith)

    -- ---- no window takes more than it shows
    pub within : taken r g ≤ length w
    unfolding taken refused landed
    within = by_way came
      where
        by_keeps : (b : Bool) → cond b o.at r.at - r.at ≤ length w
        by_keeps true = omega (arith, (runs.left Stand takes (does set) taking r.stand r.at w).within)
        by_keeps false = omega arith

        by_way : Came r t w → taken r g ≤ length w
        by_way (again h e) = rw e (omega arith)
        by_way (refuses u x p log n e) = rw e (omega arith)
        by_way (is_read u log h e) = rw e (by_keeps (keeps o.state))

    -- ---- the session's position moves by what is taken
    pub moved : g.next.at ≡ r.at + taken r g
    unfolding taken refused landed
    moved = by_way came
      where
        by_keeps : (b : Bool) → cond b o.at r.at ≡ r.at + (cond b o.at r.at - r.at)
        by_keeps true = omega (arith, (runs.left Stand takes (does set) taking r.stand r.at w).on)
        by_keeps false = omega arith

        by_way : Came r t w → g.next.at ≡ r.at + taken r g
        by_way (again h e) = rw e (omega arith)
        by_way (refuses u x p log n e) = rw e (omega arith)
        by_way (is_read u log h e) = rw e (by_keeps (keeps o.state))

    -- ---- a session that goes on has taken all before the unfinished read: what is left does not hold the next piece
    pub unfinished : over g.next.stand ≡ false → takes g.next.stand (drop (taken r g) w) ≡ short
    unfolding taken refused landed over keeps
    unfinished k = by_way came
      where
        by_way : Came r t w → takes g.next.stand (drop (taken r g) w) ≡ short
        by_way (again h e) = let f : over r.stand ≡ false = rw e at k in absurd (apart (sym h ∙ f))
        by_way (refuses u x p log n e) = let f : true ≡ false = rw e at k in absurd (apart f)
        by_way (is_read u log h e) =
            let f : over o.state ≡ false = rw e at k in
            let d : drop (o.at - r.at) w ≡ o.rest = (runs.left Stand takes (does set) taking r.stand r.at w).is in
            rw (e, f, d) (runs.run_stops Stand takes (does set) taking r.stand r.at w)

    waits_at : (f : Stand) → g.next.stand ≡ f → over f ≡ false → takes f (drop (taken r g) w) ≡ short
    waits_at f e h = ap (λ (x : Stand). takes x (drop (taken r g) w)) (sym e) ∙ unfinished (ap over e ∙ h)

    -- a read that begins: it waits for more than is left, and the answer's place is where it begins
    pub unfinished_read : (ph : Phase) → g.next.stand ≡ fresh (reads ph)
        → (fetch (wants ph) (drop (taken r g) w) ≡ short) × ((said g.next g.table).place ≡ g.next.at)
    unfolding over takes need said stand_place place_of
    unfinished_read ph e = (waits_at (fresh (reads ph)) e refl, ap (λ (f : Stand). stand_place f g.next.at) e)

    -- a sized body: every byte shown is taken
    pub unfinished_literal : (e : Encoding) (from left : ℕ) → g.next.stand ≡ in_literal e from left → drop (taken r g) w ≡ []
    unfolding over takes
    unfinished_literal e from left h = none_left (drop (taken r g) w) (waits_at (in_literal e from left) h refl)

    -- a preamble, a content: every finished line is taken
    pub unfinished_preamble : (m : Mail) (b : List ℕ) (os : List (List ℕ)) (from : ℕ) (here : Bool) → g.next.stand ≡ in_preamble m b os from here
        → fetch a_line (drop (taken r g) w) ≡ short
    unfolding over takes
    unfinished_preamble m b os from here h = no_line (word (dash b)) here (drop (taken r g) w) (waits_at (in_preamble m b os from here) h refl)

    pub unfinished_content : (m : Mail) (e : Encoding) (b : List ℕ) (os : List (List ℕ)) (from : ℕ) (here : Bool) → g.next.stand ≡ in_content m e b os from here
        → fetch a_line (drop (taken r g) w) ≡ short
    unfolding over takes
    unfinished_content m e b os from here h = no_line (word (dash b)) here (drop (taken r g) w) (waits_at (in_content m e b os from here) h refl)

    -- ---- done takes up to its place
    pub done_takes_to_its_place : over r.stand ≡ false → result_number (said g.next g.table).result ≡ 0 → (said g.next g.table).place ≡ g.next.at
    unfolding said refused landed stand_result result_of
    done_takes_to_its_place h z = by_way came
      where
        by_way : Came r t w → stand_place g.next.stand g.next.at ≡ g.next.at
        by_way (again k e) = absurd (apart (sym k ∙ h))
        by_way (refuses u x p log n e) = absurd (n (rw e at z))
        by_way (is_read u log k e) = rw e (done_place o.state o.at r.at (rw e at z) (run_done set r.stand r.at w (done_none r.stand r.at h)))
