-- A header by windows: the slots of open boundaries, what a line adds, what is behind the blank line, the loop over its lines; and the line behind an append.
-- Assumes nothing.
use mathlib.Core.Path.{◌≡◌, refl, sym, ap, ◌∙◌}
use mathlib.Core.Bool.{Bool, true, false, cond}
use mathlib.Core.List.{List, [], ◌∷◌}
use Rattle.std.specs.Prelude.{None, Some, Result, Ok, Err, IsErrAnd}
use mathlib.Core.Logic.{◌⊎◌, inl, inr}
use Prim.Native.Nat.{ℕ, zero, suc, ◌+◌, ◌-◌, ◌*◌, ◌≤◌, ◌<◌}
use native.Mathlib.Omega.{arith}
use lib.Dec.{eqb}
use lib.ListN.{length, take, drop, get_or, length-take, length-drop}
use lib.Seq.{take_all, take-take, get_or-take}
use borrow.Author.Tests.{lt-ltb, le-ltb, le-leb, lt-leb, eqb-true, eqb-false}
use Rattle.events.specs.Events.{ev, header_line, body_start, body_stop}
use Rattle.events.specs.Table.{pour}
use Rattle.events.specs.declared.Encoding.{Encoding}
use Rattle.events.specs.declared.Encoding.TheVariants.{Unsaid}
use Rattle.events.specs.declared.Log.{Log}
use Rattle.events.specs.declared.Outcome.{Outcome}
use Rattle.events.specs.declared.Outcome.TheVariants.{TooDeep, LongBoundary, SmallLiteral}
use Rattle.fields.specs.Common.{Known, part, scanned, by_boundary, first_encoding, known_of, Says}
use Rattle.fields.specs.Imap.{holds_colon}
use Rattle.fields.specs.declared.common.Scan.{Scan}
use Rattle.reading.proofs.Pieces.{drop_take}
use Rattle.reading.proofs.Places.{by_test}
use Rattle.reading.specs.declared.Span.{Span}
use Rattle.reading.specs.Bytes.{same}
use Rattle.reading.specs.Reading.{crlf, a_line}
use Rattle.reads.proofs.Notes.{notes_on}
use Rattle.reads.specs.Clauses.{Ends, Stops, Begins, Notes, Written, Full}
use Rattle.reads.specs.declared.Stop.{Stop}
use Rattle.rules.specs.Machine.{Reaction}
use Rattle.rules.specs.Mail.{begun, boundary_free, plain_mail, literal_body, rest, on_head}
use Rattle.rules.specs.Phases as phase
use Rattle.rules.specs.Phases.{State, reads, need, wants, then, ahead}
use Rattle.rules.specs.Sessions.{reacts, react}
use Rattle.rules.specs.Strict.{strictly}
use Rattle.rules.specs.declared.Mail.{Mail}
use Rattle.rules.specs.declared.Mail.TheVariants.{Smtp, Pop3, Imap}
use Rattle.rules.specs.declared.Settings.{Settings}
use Rattle.windows.proofs.Courses.{pieces_got}
use Rattle.windows.specs.Stands.{fresh, enter, enters, opens, copied, clipped, takes, does}
use Rattle.windows.specs.Windows.{lands}
use Rattle.phases.proofs.Reactions.{offered_mail, offered_not}
use Rattle.phases.proofs.Turning.{to_end, piece_of, waits_whole, halts, leads, leads_written, leads_full, came_goes, came_leaves, came_turn, stopped}
use Rattle.phases.specs.Phasing.{slot, outside, Slots, Kept, boundary_of, known_as, unheard, state_of, Fits, Piece, Came, TurnIs, HeadIs, over_of, onward_of, Passes, Halts, Learns, BegunIs, DeeperIs, behind_of}
use Rattle.phases.specs.declared.Heard.{Heard}
use Rattle.phases.specs.declared.Phase.{Phase}
use Rattle.phases.specs.declared.Phase.TheVariants as is
use Rattle.phases.specs.declared.Spot.{Spot}
use Rattle.phases.specs.declared.header.Begun.{Begun}

-- ---- slots
pub slot_length : (k : List ℕ) (i : ℕ) → Slots k → i < 9 → length (slot k i) ≡ get_or k (i * 72) 0
slot_length k i h g = omega (arith, length-take (get_or k (i * 72) 0) (drop (i * 72 + 1) k), length-drop (i * 72 + 1) k, h.long, h.short i g)

-- a copy is short enough to be copied whole
slot_short : (k : List ℕ) (i : ℕ) → Slots k → i < 9 → take 71 (slot k i) ≡ slot k i
slot_short k i h g = take_all 71 (slot k i) (omega (arith, slot_length k i h g, h.short i g))

outside_length : (k : List ℕ) (i : ℕ) → length (outside k i) ≡ i
unfolding outside
outside_length k zero = refl
outside_length k (suc i) = ap suc (outside_length k i)

slots_kept : {k k' b : List ℕ} {i : ℕ} → Slots k → Kept k i b k' → Slots k'
slots_kept {k} {k'} {b} {i} h c = record {
  long = c.long ∙ h.long;
  short = λ j g.
      by_test (eqb j i)
      (λ t. let e : j ≡ i = eqb-true j i t in rw e c.own)
      (λ f. rw (c.others j (eqb-false j i f)) (h.short j g));
}

-- those outside stay where one is kept
slot_same : (k k' : List ℕ) (i j : ℕ) → take (i * 72) k' ≡ take (i * 72) k → j < i → get_or k (j * 72) 0 ≤ 71 → slot k' j ≡ slot k j
slot_same k k' i j h g l =
    let n : get_or k' (j * 72) 0 ≡ get_or k (j * 72) 0 =
    sym (get_or-take (i * 72) k' (j * 72) 0 (omega arith)) ∙ ap (λ (x : List ℕ). get_or x (j * 72) 0) h ∙ get_or-take (i * 72) k (j * 72) 0 (omega arith) in
    let m = get_or k (j * 72) 0 in
    let o = j * 72 + 1 in
    let a : take (i * 72 - o) (drop o k') ≡ take (i * 72 - o) (drop o k) = sym (drop_take o (i * 72) k') ∙ ap (drop o) h ∙ drop_take o (i * 72) k in
    rw n (sym (take-take m (i * 72 - o) (drop o k') (omega arith)) ∙ ap (take m) a ∙ take-take m (i * 72 - o) (drop o k) (omega arith))

outside_same : (k k' : List ℕ) (i j : ℕ) → take (i * 72) k' ≡ take (i * 72) k → j ≤ i → ((x : ℕ) → x < j → get_or k (x * 72) 0 ≤ 71) → outside k' j ≡ outside k j
unfolding outside
outside_same k k' i zero h g l = refl
outside_same k k' i (suc j) h g l =
    rw (slot_same k k' i j h (omega arith) (l j (omega arith)), outside_same k k' i j h (omega arith) (λ x y. l x (omega arith)))

-- ---- what a line adds
module _ {w : List ℕ} {p e : ℕ} {x : Heard} {i : ℕ} {k : List ℕ} (slots : Slots k) (deep : i ≤ 8) where
  -- the boundary is known: only an encoding counts
  pub heard_had : {c : Encoding} → x.supplied ≡ true → c ≡ first_encoding x.encoding (part w p e)
      → Learns w p e x i k (record { encoding = c; seen = x.seen; supplied = true }) k
  unfolding scanned by_boundary clipped copied
  heard_had h q = record { slots = slots; outer = refl; is = rw (h, slot_short k i slots (omega arith), q) }

  module _ {s : Scan} (h : x.supplied ≡ false)
      (y : Says w (scanned (known_of w (record { encoding = x.encoding; seen = x.seen; boundary = None })) (part w p e)) s) where
    -- still none
    pub heard_none : s.boundary ≡ None → Learns w p e x i k (record { encoding = s.encoding; seen = s.seen; supplied = false }) k
    unfolding clipped copied
    heard_none b =
        let a : known_of w s ≡ record { encoding = s.encoding; type_seen = s.seen; boundary = None } = rw b in
        record { slots = slots; outer = refl; is = rw h (sym (ap clipped (sym y.is ∙ a))) }

    -- the line supplies it, and it is kept
    pub heard_supplied : {b : Span} {k' : List ℕ} → s.boundary ≡ Some b → Kept k i (take b.len (drop b.at w)) k'
        → Learns w p e x i k (record { encoding = s.encoding; seen = s.seen; supplied = true }) k'
    unfolding clipped copied
    heard_supplied {b} {k'} q c =
        let a : known_of w s ≡ record { encoding = s.encoding; type_seen = s.seen; boundary = Some (take b.len (drop b.at w)) } = rw q in
        record {
          slots = slots_kept slots c;
          outer = outside_same k k' i i c.front (omega arith) (λ j g. slots.short j (omega arith));
          is = rw (h, c.is) (sym (ap clipped (sym y.is ∙ a)));
        }

-- ---- a deeper multipart
module _ (m : Mail) (k : List ℕ) (i to : ℕ) where
  pub too_deep : 8 ≤ i → DeeperIs m k i to (is.Over TooDeep to)
  unfolding begun state_of enter Fits
  too_deep h =
      let t = le-leb 8 i h in
      record { still = λ e. rw (outside_length k i, t); enters = λ e. record { is = rw (outside_length k i, t); fits = tt } }

  module _ (slots : Slots k) (h : i < 8) where
    pub too_long : 70 < get_or k (i * 72) 0 → DeeperIs m k i to (is.Over LongBoundary to)
    unfolding begun state_of enter enters opens Fits
    too_long g =
        let t = lt-leb 8 i h in
        let l = slot_length k i slots (omega arith) in
        record {
          still = λ e. rw (outside_length k i, t);
          enters = λ e. record { is = rw (outside_length k i, t, l, lt-ltb 70 (get_or k (i * 72) 0) g); fits = tt };
        }

    pub deeper_opens : Begins m to → get_or k (i * 72) 0 ≤ 70 → DeeperIs m k i to (is.Preamble m i to true)
    unfolding begun state_of enter enters opens Fits
    deeper_opens b g =
        let t = lt-leb 8 i h in
        let l = slot_length k i slots (omega arith) in
        record {
          still = λ e. rw (outside_length k i, t);
          enters = λ e. record { is = rw (outside_length k i, t, l, le-ltb 70 (get_or k (i * 72) 0) g); fits = (omega arith, omega arith, b) };
        }

-- ---- behind the blank line
still : {t : List ℕ} {log : Log} → Written t log [] log t
unfolding pour
still = record { is = refl }

module _ (k : List ℕ) (e : Encoding) (to : ℕ) {t : List ℕ} {log : Log} {r : Result Log Stop} {u : List ℕ} where
  -- bytes of a literal, or none
  pub literal_some : (n : ℕ) → 0 < n → Notes t log (ev body_start to 0 Unsaid ∷ []) r u
      → BegunIs (literal_body e to n) to k t log (record { phase = is.Literal e to (n - 1); noted = r }) u
  unfolding literal_body enter enters state_of Fits
  literal_some n h s =
      let z : n ≡ suc (n - 1) = omega arith in
      let re : literal_body e to n ≡ then (ev body_start to 0 Unsaid ∷ []) (phase.literal e (n - 1)) = ap (literal_body e to) z in
      rw re (record { notes = s; enters = record { is = refl; fits = omega arith } })

  pub literal_none : (n : ℕ) → n ≤ 0 → Notes t log (ev body_start to 0 Unsaid ∷ ev body_stop to 0 Unsaid ∷ []) r u
      → BegunIs (literal_body e to n) to k t log (record { phase = is.Closing; noted = r }) u
  unfolding literal_body enter enters state_of Fits
  literal_none n h s =
      let z : n ≡ 0 = omega arith in
      rw z (record { notes = s; enters = record { is = refl; fits = tt } })

  -- a mail's lines
  pub plain_lines : {m : Mail} → (m ≡ Smtp) ⊎ (m ≡ Pop3) → Notes t log (ev body_start to 0 Unsaid ∷ []) r u
      → BegunIs (plain_mail m e to) to k t log (record { phase = is.Text m e; noted = r }) u
  unfolding plain_mail enter enters state_of Fits
  plain_lines (inl h) s = rw h (record { notes = s; enters = record { is = refl; fits = tt } })
  plain_lines (inr h) s = rw h (record { notes = s; enters = record { is = refl; fits = tt } })

  -- a part
  pub begun_part : (m : Mail) (x : Heard) (i : ℕ) → Begins m to → i ≤ 8 → x.supplied ≡ false → (i ≡ 0 → ⊥) → Notes t log (ev body_start to 0 Unsaid ∷ []) r u
      → BegunIs (begun m e (boundary_of k i x) (outside k i) to) to k t log (record { phase = is.Content m e (i - 1) to true; noted = r }) u
  unfolding begun boundary_free enter enters state_of outside Fits
  begun_part m x i b v h g s =
      let z : i ≡ suc (i - 1) = omega arith in
      let o : outside k i ≡ slot k (i - 1) ∷ outside k (i - 1) = ap (outside k) z in
      rw (h, o) (record { notes = s; enters = record { is = refl; fits = (omega arith, omega arith, b) } })

module _ (k : List ℕ) (e : Encoding) (to : ℕ) {t : List ℕ} {log : Log} {m : Mail} {size start : ℕ} (h : m ≡ Imap size start) where
  -- the literal is smaller than the header
  pub plain_small : size < to - start → BegunIs (plain_mail m e to) to k t log (record { phase = is.Over SmallLiteral to; noted = Ok log }) t
  unfolding plain_mail enter state_of Fits
  plain_small g = rw (h, lt-ltb size (to - start) g) (record { notes = still; enters = record { is = refl; fits = tt } })

  -- what it has left
  pub plain_rest : {r : Begun} {u : List ℕ} → to - start ≤ size → BegunIs (literal_body e to (size - (to - start))) to k t log r u → BegunIs (plain_mail m e to) to k t log r u
  unfolding plain_mail rest
  plain_rest g d = rw (h, le-ltb size (to - start) g) d

module _ (m : Mail) (x : Heard) (i to : ℕ) (k : List ℕ) {t : List ℕ} {log : Log} where
  -- a multipart
  pub begun_deeper : {ph : Phase} → x.supplied ≡ true → DeeperIs m k i to ph
      → BegunIs (behind_of m x i k to) to k t log (record { phase = ph; noted = Ok log }) t
  begun_deeper h d = rw h (record { notes = rw (d.still x.encoding) still; enters = d.enters x.encoding })

  -- a mail with no boundary
  pub begun_mail : {r : Begun} {u : List ℕ} → x.supplied ≡ false → i ≡ 0 → BegunIs (plain_mail m x.encoding to) to k t log r u
      → BegunIs (behind_of m x i k to) to k t log r u
  unfolding begun boundary_free outside
  begun_mail h z d = rw (h, z) d

-- ---- a header's lines in a window
abbrev turned : Mail → Known → List (List ℕ) → ℕ → List ℕ → Bool → Reaction State
turned m y os to l b = cond b (begun m y.encoding y.boundary os to) (then [] (phase.head m (scanned y l) os))

head_piece : {set : Settings} (base : ℕ) {w : List ℕ} {p e : ℕ} (m : Mail) (y : Known) (os : List (List ℕ)) (b : Bool) → Passes set w p e → same crlf (part w p e) ≡ b
    → Piece set w base p (fresh (reads (phase.head m y os))) e (ahead (ev header_line (base + p) (e - p) Unsaid) (turned m y os (base + e) (part w p e) b))
unfolding reacts on_head wants
head_piece base m y os b d q = piece_of (phase.head m y os) d.ends d.passes (rw (q, to_end base d.ends, d.ends.long))

-- a mail that has begun before a has begun before what is behind it
pub begins_later : {m : Mail} {a : ℕ} (to : ℕ) → Begins m a → a ≤ to → Begins m to
begins_later to d h = record { is = λ size start q. omega (arith, d.is size start q) }

-- the loop's invariant: what is left at p, with what is heard, is what was left at a for the phase ph
pub record HeadAt (set : Settings) (w : List ℕ) (base a : ℕ) (k₀ t₀ : List ℕ) (log₀ : Log) (ph : Phase) (m : Mail) (x : Heard) (i : ℕ) (k : List ℕ)
    (p : ℕ) (t : List ℕ) (log : Log) : Type 0 where
  pub from : a ≤ p
  pub slots : Slots k
  pub deep : i ≤ 8
  pub begins : Begins m (base + p)
  pub came : Came set w base a t₀ log₀ (state_of k₀ ph) p t log (state_of k (is.Head m x i))
  pub as_many : length k ≡ length k₀
  pub long : length t ≡ length t₀

module _ {set : Settings} {w : List ℕ} {base a : ℕ} {k₀ t₀ : List ℕ} {log₀ : Log} {ph : Phase} {m : Mail} {x : Heard} {i : ℕ} {k : List ℕ} {p : ℕ} {t : List ℕ} {log : Log}
    (at : HeadAt set w base a k₀ t₀ log₀ ph m x i k p t log) where
  -- no line is finished, or it is refused
  pub head_halts : {r : Spot} → Halts set w base p (is.Head m x i) log r → HeadIs set w base a k₀ t₀ log₀ ph (Err r) k t
  unfolding state_of Fits wants
  head_halts d =
      record { slots = at.slots; is = came_goes at.came (halts k t (phase.head m (known_as k i x) (outside k i)) refl refl d at.came.within (at.deep, at.begins)) }

  module _ {e : ℕ} (d : Passes set w p e) {u : List ℕ} where
    -- its event finds no slot
    pub head_full : {s : Stop} → Full t log (ev header_line (base + p) (e - p) Unsaid ∷ []) s u → HeadIs set w base a k₀ t₀ log₀ ph (Ok (over_of s e)) k u
    unfolding state_of
    head_full {s} n =
        let b = same crlf (part w p e) in
        let l = part w p e in
        record {
          slots = at.slots;
          is =
              came_leaves at.from at.came
              (leads_full (head_piece base m (known_as k i x) (outside k i) b d refl) (turned m (known_as k i x) (outside k i) (base + e) l b).events refl n);
        }

    module _ {next : Log} (n : Written t log (ev header_line (base + p) (e - p) Unsaid ∷ []) next u) where
      -- a line is heard
      pub head_on : {r : Heard} {k' : List ℕ} → same crlf (part w p e) ≡ false → Learns w p e x i k r k' → length u ≡ length t
          → HeadAt set w base a k₀ t₀ log₀ ph m r i k' e u next
      unfolding state_of enter enters Fits
      head_on {r} {k'} h y v =
          let g : state_of k' (is.Head m r i) ≡ enter (reads (phase.head m (scanned (known_as k i x) (part w p e)) (outside k i))) (base + e) =
          ap (λ (z : Known). fresh (reads (phase.head m z (outside k' i)))) y.is
          ∙ ap (λ (os : List (List ℕ)). fresh (reads (phase.head m (clipped (scanned (known_as k i x) (part w p e))) os))) y.outer in
          let b : Begins m (base + e) = begins_later (base + e) at.begins (omega (arith, d.ends.on)) in
          let l =
          came_leaves at.from at.came
          (leads_written (head_piece base m (known_as k i x) (outside k i) false d h) {k = k'} {ph = is.Head m r i} n (record { is = g; fits = (at.deep, b) })) in
          record {
            from = omega (arith, at.from, d.ends.on);
            slots = y.slots;
            deep = at.deep;
            begins = b;
            came = l.came;
            as_many = y.slots.long ∙ sym at.slots.long ∙ at.as_many;
            long = v ∙ at.long;
          }

      -- the blank line
      pub head_begun : {b : Begun} {v : List ℕ} → same crlf (part w p e) ≡ true
          → BegunIs (behind_of m x i k (base + e)) (base + e) k u next b v
          → HeadIs set w base a k₀ t₀ log₀ ph (Ok (onward_of b.noted b.phase e)) k v
      unfolding state_of
      head_begun {b} {v} h y =
          let re = behind_of m x i k (base + e) in
          record {
            slots = at.slots;
            is =
                came_leaves at.from at.came
                (leads (head_piece base m (known_as k i x) (outside k i) true d h) k t log b.noted v b.phase (notes_on re.events b.noted v n y.notes) y.enters);
          }

-- the exit of a `?`
pub head_stopped : {set : Settings} {w : List ℕ} {base a : ℕ} {k t : List ℕ} {log : Log} {ph : Phase} {s : Spot} {k' u : List ℕ} (r : Result Spot Spot) → IsErrAnd r (λ y. y ≡ s)
    → HeadIs set w base a k t log ph (Err s) k' u → HeadIs set w base a k t log ph r k' u
head_stopped r q d = record { slots = d.slots; is = stopped r q d.is }

-- ---- the line behind an append, only peeked at
-- it is read as another phase reads it, which refuses it where this one does
as_read : {set : Settings} {w : List ℕ} {base p e : ℕ} (t : List ℕ) (log : Log) (size : ℕ) (so : phase.Phase) → Ends a_line w p e → wants so ≡ a_line
    → reacts (phase.offered size) (base + p) (part w p e) ≡ reacts so (base + p) (part w p e)
    → Came set w base p t log (fresh (reads (phase.offered size))) p t log (fresh (reads so))
unfolding wants takes does strictly need react
as_read {set} {w} {base} {p} {e} t log size so d a q = record {
  within = omega (arith, d.on, d.within);
  is =
      ap (lands base t log)
      (pieces_got set (fresh (reads so)) (base + p) (drop p w) (part w p e) (drop e w) (rw a d.is)
      ∙ rw (a, ← q) (sym (pieces_got set (fresh (reads (phase.offered size))) (base + p) (drop p w) (part w p e) (drop e w) d.is)));
}

module _ {set : Settings} {w : List ℕ} {base p : ℕ} {k t : List ℕ} {log : Log} {size : ℕ} where
  pub offered_short : {o : Outcome} → Stops a_line w p o → p ≤ length w → Slots k
      → HeadIs set w base p k t log (is.Offered size) (Err (record { phase = is.Offered size; taken = p; log = log })) k t
  unfolding state_of Fits wants
  offered_short d h s = record { slots = s; is = waits_whole (is.Offered size) (phase.offered size) refl d h tt }

  module _ {e : ℕ} (d : Ends a_line w p e) {r : Result Spot Spot} {u : List ℕ} where
    -- it holds a colon: a mail
    pub offered_head : {k' : List ℕ} → holds_colon (part w p e) ≡ true → HeadIs set w base p k t log (is.Head (Imap size (base + p)) unheard 0) r k' u
        → HeadIs set w base p k t log (is.Offered size) r k' u
    unfolding state_of outside wants
    offered_head {k'} h y =
        let so = phase.head (Imap size (base + p)) (known_as k 0 unheard) [] in
        let c = as_read t log size so d refl (offered_mail size (base + p) (part w p e) h) in
        record { slots = y.slots; is = came_turn k' u r (let n : p ≤ p = omega arith in n) c y.is }

    -- else a command
    pub offered_command : holds_colon (part w p e) ≡ false → Slots k → TurnIs set w base p k t log (state_of k is.Command) r u → HeadIs set w base p k t log (is.Offered size) r k u
    unfolding state_of wants
    offered_command h s y =
        let c = as_read t log size phase.command d refl (offered_not size (base + p) (part w p e) h) in
        record { slots = s; is = came_turn k u r (let n : p ≤ p = omega arith in n) c y }
