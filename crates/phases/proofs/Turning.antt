-- Turns of a window, put together: what a piece, its events and another turn leave to do.
-- Assumes nothing.
use mathlib.Core.Path.{◌≡◌, refl, sym, ap, ◌∙◌}
use mathlib.Core.Bool.{true, false, ◌&&◌}
use mathlib.Core.List.{List, [], ◌∷◌, ◌++◌, append-nil}
use Prim.Native.Nat.{ℕ, suc, ◌+◌, ◌-◌, ◌≤◌}
use native.Mathlib.Omega.{arith}
use lib.ListN.{length, drop}
use Rattle.std.specs.Prelude.{Result, Ok, Err, IsErrAnd}
use Rattle.std.proofs.lemmas.Result.{err_from_is_err_and}
use Rattle.events.proofs.Laws.{further, pour_append}
use Rattle.events.specs.Table.{Poured, all, full, pour}
use Rattle.events.specs.declared.Event.{Event}
use Rattle.events.specs.declared.Log.{Log}
use Rattle.events.specs.declared.Outcome.{Outcome}
use Rattle.events.specs.declared.Outcome.TheVariants.{TableFull, BareLf}
use Rattle.fields.specs.Common.{part, unknown}
use Rattle.reading.specs.Reading.{Need, a_line, two, parted, fetch}
use Rattle.reads.specs.Clauses.{Ends, Stops, TwoIs, Notes, Written, Full, Begins}
use Rattle.reads.specs.declared.Stop.{Stop}
use Rattle.reads.specs.declared.Two.{Two}
use Rattle.reads.specs.declared.Two.TheVariants.{Crlf, Hyphens, Other}
use Rattle.rules.specs.Machine.{Reaction, Ran, stay, before}
use Rattle.rules.specs.Mail.{after_mail, popped}
use Rattle.rules.specs.Phases as phase
use Rattle.rules.specs.Phases.{State, reads, ends, need, wants}
use Rattle.rules.specs.Sessions.{reacts, react, result_of}
use Rattle.rules.specs.Strict.{is_bare, strictly}
use Rattle.rules.specs.declared.Mail.{Mail}
use Rattle.rules.specs.declared.Settings.{Settings}
use Rattle.windows.proofs.Courses.{pieces_short, pieces_got}
use Rattle.windows.proofs.Cut.{over_stays}
use Rattle.windows.specs.Stands.{Stand, fresh, enter, enters, clipped, copied, goes_on, takes, does, pieces, stand_result}
use Rattle.windows.specs.Windows.{over, keeps, refused, landed, lands}
use Rattle.phases.specs.Phasing.{slot, outside, unheard, state_of, Fits, Enters, Piece, Came, Leaves, Goes, TurnIs, onward_of, Halts, waits, refuses as refused_at, Unpaired}
use Rattle.phases.specs.declared.Heard.{Heard}
use Rattle.phases.specs.declared.Phase.{Phase}
use Rattle.phases.specs.declared.Phase.TheVariants as is
use Rattle.phases.specs.declared.Spot.{Spot}

-- ---- a run behind events
landed_same : (base : ℕ) (es : List Event) (o : Ran Stand) (z : Poured) → landed base (before es o) z ≡ landed base o z
unfolding landed
landed_same base es o (all t log) = refl
landed_same base es o (full t q log) = refl

-- all are written: what is left is the run behind them
pub lands_written : (base : ℕ) {t : List ℕ} {log : Log} {es : List Event} {next : Log} {u : List ℕ} (o : Ran Stand) → Written t log es next u
    → lands base u next o ≡ lands base t log (before es o)
unfolding lands further
lands_written base {t} {log} {es} o w =
    sym (landed_same base es o (pour (es ++ o.events) t log) ∙ ap (landed base o) (pour_append es o.events t log ∙ rw w.is))

-- one finds no slot: the session is over
pub lands_full : (base : ℕ) {t : List ℕ} {log : Log} {es : List Event} {a : Stop} {u : List ℕ} (more : List Event) (o : Ran Stand) → Full t log es a u
    → refused base u TableFull a.place a.log ≡ lands base t log (before (es ++ more) o)
unfolding lands further landed
lands_full base {t} {log} {es} {a} {u} more o w =
    let first : pour (es ++ more) t log ≡ full u a.place a.log = pour_append es more t log ∙ rw w.is in
    let poured : pour ((es ++ more) ++ o.events) t log ≡ full u a.place a.log = pour_append (es ++ more) o.events t log ∙ rw first in
    sym (landed_same base (es ++ more) o (pour ((es ++ more) ++ o.events) t log)
    ∙ ap (landed base o) poured)

-- an end that is no end of reading: nothing is taken
pub refuses : (set : Settings) (base : ℕ) (t : List ℕ) (log : Log) (q at : ℕ) (s : List ℕ)
    → refused base t TableFull q log ≡ lands base t log (pieces set (fresh (ends TableFull q)) at s)
unfolding lands pour landed refused keeps over stand_result result_of
refuses set base t log q at s = sym (ap (lands base t log) (over_stays set (fresh (ends TableFull q)) at s refl))

-- ---- a read of a phase that is taken whole
pub to_end : (base : ℕ) {w : List ℕ} {p : ℕ} {nd : Need} {e : ℕ} → Ends nd w p e → base + p + length (part w p e) ≡ base + e
to_end base d = omega (arith, d.long, d.on)

module _ {set : Settings} {w : List ℕ} {base p : ℕ} where
  -- it has its piece, which does not refuse
  pub piece_of : {e : ℕ} {re : Reaction State} (so : phase.Phase) → Ends (wants so) w p e → (is_bare (wants so) (part w p e) && set.strict) ≡ false
      → reacts so (base + p) (part w p e) ≡ re → Piece set w base p (fresh (reads so)) e re
  unfolding takes does strictly need react
  piece_of {e} {re} so d h q = record {
    on = d.on;
    within = d.within;
    is =
        pieces_got set (fresh (reads so)) (base + p) (drop p w) (part w p e) (drop e w) d.is
        ∙ rw (h, to_end base d)
        (ap (λ (x : Reaction State). before x.events (pieces set (enter x.next (base + e)) (base + e) (drop e w))) q);
  }

  -- it needs more: the window is over
  pub waits_whole : {k t : List ℕ} {log : Log} {o : Outcome} (ph : Phase) (so : phase.Phase) → state_of k ph ≡ fresh (reads so) → Stops (wants so) w p o → p ≤ length w
      → Fits ph (base + p) → Goes set w base p k t log (fresh (reads so)) (record { phase = ph; taken = p; log = log }) t
  unfolding takes need fetch parted lands pour landed keeps over
  waits_whole {k} {t} {log} ph so e d h f = record {
    within = h;
    fits = f;
    is = rw e (sym (ap (lands base t log) (pieces_short set (fresh (reads so)) (base + p) (drop p w) (rw d.short))));
  }

  -- its line refuses: the window is over, and takes nothing
  pub refuses_line : {e : ℕ} {k t : List ℕ} {log : Log} (so : phase.Phase) → Ends (wants so) w p e → (is_bare (wants so) (part w p e) && set.strict) ≡ true
      → Goes set w base p k t log (fresh (reads so)) (record { phase = is.Over BareLf (base + p); taken = 0; log = log }) t
  unfolding takes does strictly need enter state_of Fits lands pour landed keeps over stand_result result_of
  refuses_line {e} {k} {t} {log} so d h =
      let z : base + 0 ≡ base = omega arith in
      let f = fresh (ends BareLf (base + p)) in
      let to = base + p + length (part w p e) in
      let re : does set (fresh (reads so)) (base + p) (part w p e) ≡ goes_on f = rw h in
      let o : pieces set (fresh (reads so)) (base + p) (drop p w) ≡ stay f to (drop e w) =
      pieces_got set (fresh (reads so)) (base + p) (drop p w) (part w p e) (drop e w) d.is
      ∙ ap (λ (x : Reaction Stand). before x.events (pieces set x.next to (drop e w))) re
      ∙ over_stays set f to (drop e w) refl in
      record { within = omega arith; fits = tt; is = rw z (sym (ap (lands base t log) o)) }

-- a line that is not read, either way
pub halts : {set : Settings} {w : List ℕ} {base p : ℕ} {ph : Phase} {log : Log} {r : Spot} (k t : List ℕ) (so : phase.Phase) → state_of k ph ≡ fresh (reads so)
    → wants so ≡ a_line → Halts set w base p ph log r → p ≤ length w → Fits ph (base + p) → Goes set w base p k t log (fresh (reads so)) r t
halts {w = w} {p = p} {ph} k t so e a (waits o d q) h f = let z : Stops (wants so) w p o = rw a d in rw q (waits_whole ph so e z h f)
halts k t so e a (refused_at n d b q) h f = rw q (refuses_line {e = n} so (rw a d) (rw a b))

-- two bytes that are not there
pub pair_waits : {set : Settings} {w : List ℕ} {base p : ℕ} (k t : List ℕ) {log : Log} (ph : Phase) (so : phase.Phase) {r : Spot} → state_of k ph ≡ fresh (reads so)
    → wants so ≡ two → Unpaired w p ph log r → p ≤ length w → Fits ph (base + p) → Goes set w base p k t log (state_of k ph) r t
pair_waits {w = w} {p = p} k t ph so e a d h f = let z : Stops (wants so) w p d.o = rw a d.stops in rw (d.is, e) (waits_whole ph so e z h f)

-- the exit of a `?`
pub stopped : {set : Settings} {w : List ℕ} {base p : ℕ} {k t : List ℕ} {log : Log} {f : Stand} {s : Spot} {u : List ℕ} (r : Result Spot Spot) → IsErrAnd r (λ y. y ≡ s)
    → Goes set w base p k t log f s u → TurnIs set w base p k t log f r u
stopped r q d = let left = err_from_is_err_and r q in rw (left.1, left.2) d

-- ---- what follows a piece
module _ {set : Settings} {w : List ℕ} {base p : ℕ} {f : Stand} {e : ℕ} {re : Reaction State} (d : Piece set w base p f e re) {k t : List ℕ} {log : Log} where
  pub leads_written : {next : Log} {u : List ℕ} {ph : Phase} → Written t log re.events next u → Enters k re.next (base + e) ph
      → Leaves set w base p k t log f (record { phase = ph; taken = e; log = next }) u
  leads_written {next} {u} {ph} n g = record {
    farther = d.on;
    fits = g.fits;
    came = record {
      within = d.within;
      is = rw g.is (lands_written base (pieces set (enter re.next (base + e)) (base + e) (drop e w)) n ∙ ap (lands base t log) (sym d.is));
    };
  }

  pub leads_full : {es : List Event} {a : Stop} {u : List ℕ} (more : List Event) → re.events ≡ es ++ more → Full t log es a u
      → Leaves set w base p k t log f (record { phase = is.Over a.result a.place; taken = e; log = a.log }) u
  unfolding state_of Fits
  leads_full {es} {a} {u} more q n = record {
    farther = d.on;
    fits = tt;
    came = record {
      within = d.within;
      is =
          rw n.result (sym (refuses set base u a.log a.place (base + e) (drop e w)))
          ∙ lands_full base more (pieces set (enter re.next (base + e)) (base + e) (drop e w)) n
          ∙ ap (lands base t log) (sym (d.is ∙ rw q));
    };
  }

  pub leads_still : {ph : Phase} → re.events ≡ [] → Enters k re.next (base + e) ph → Leaves set w base p k t log f (record { phase = ph; taken = e; log = log }) t
  unfolding pour
  leads_still q g = leads_written (record { is = rw q }) g

-- two bytes that are there
pub pair_ends : (w : List ℕ) (p : ℕ) (x : Two) → TwoIs w p (Ok x) → Ends two w p (p + 2)
pair_ends w p Crlf d = d.ends
pair_ends w p Hyphens d = d.ends
pair_ends w p Other d = d.ends

pub pair_leads : {set : Settings} {w : List ℕ} {base p : ℕ} (k t : List ℕ) {log : Log} (ph : Phase) {next : Phase} (so : phase.Phase) {st : State}
    → state_of k ph ≡ fresh (reads so)
    → wants so ≡ two → Ends two w p (p + 2) → reacts so (base + p) (part w p (p + 2)) ≡ record { events = []; next = st } → Enters k st (base + (p + 2)) next
    → Leaves set w base p k t log (state_of k ph) (record { phase = next; taken = p + 2; log = log }) t
unfolding is_bare
pair_leads k t ph so e a d q g = rw e (leads_still (piece_of so (rw a d) (rw a) q) refl g)

pub leads : {set : Settings} {w : List ℕ} {base p : ℕ} {f : Stand} {e : ℕ} {re : Reaction State} → Piece set w base p f e re
    → (k t : List ℕ) (log : Log) (n : Result Log Stop) (u : List ℕ) (ph : Phase)
    → Notes t log re.events n u → Enters k re.next (base + e) ph → Leaves set w base p k t log f (onward_of n ph e) u
leads d k t log (Ok next) u ph n g = leads_written d n g
leads {re = re} d k t log (Err a) u ph n g = leads_full d [] (sym (append-nil re.events)) n

-- ---- a loop over the pieces of a stand, which has come from a to p
pub record Looped (set : Settings) (w : List ℕ) (base a : ℕ) (t₀ : List ℕ) (log₀ : Log) (f : Stand) (p : ℕ) (t : List ℕ) (log : Log) : Type 0 where
  pub from : a ≤ p
  pub came : Came set w base a t₀ log₀ f p t log f
  pub long : length t ≡ length t₀

pub not_yet : {set : Settings} {w : List ℕ} {base a : ℕ} {t : List ℕ} {log : Log} {f : Stand} → a ≤ length w → Looped set w base a t log f a t log
not_yet h = record { from = omega arith; came = record { within = h; is = refl }; long = refl }

-- what is left at p is what was left at a
pub came_leaves : {set : Settings} {w : List ℕ} {base a : ℕ} {t₀ : List ℕ} {log₀ : Log} {f g : Stand} {p : ℕ} {t : List ℕ} {log : Log} {k u : List ℕ} {r : Spot}
    → a ≤ p → Came set w base a t₀ log₀ f p t log g → Leaves set w base p k t log g r u → Leaves set w base a k t₀ log₀ f r u
came_leaves h c l = record { farther = omega (arith, l.farther); fits = l.fits; came = record { within = l.came.within; is = l.came.is ∙ c.is } }

pub came_goes : {set : Settings} {w : List ℕ} {base a : ℕ} {t₀ : List ℕ} {log₀ : Log} {f g : Stand} {p : ℕ} {t : List ℕ} {log : Log} {k u : List ℕ} {r : Spot}
    → Came set w base a t₀ log₀ f p t log g → Goes set w base p k t log g r u → Goes set w base a k t₀ log₀ f r u
came_goes c l = record { within = l.within; fits = l.fits; is = l.is ∙ c.is }

pub came_turn : {set : Settings} {w : List ℕ} {base a : ℕ} {t₀ : List ℕ} {log₀ : Log} {f g : Stand} {p : ℕ} {t : List ℕ} {log : Log} (k u : List ℕ) (r : Result Spot Spot)
    → a ≤ p → Came set w base a t₀ log₀ f p t log g → TurnIs set w base p k t log g r u → TurnIs set w base a k t₀ log₀ f r u
came_turn k u (Ok r) h c l = came_leaves h c l
came_turn k u (Err r) h c l = came_goes c l

module _ {set : Settings} {w : List ℕ} {base a : ℕ} {t₀ : List ℕ} {log₀ : Log} {f : Stand} {p : ℕ} {t : List ℕ} {log : Log} (c : Looped set w base a t₀ log₀ f p t log) where
  pub looped_on : {e : ℕ} {re : Reaction State} {next : Log} {u : List ℕ} → Piece set w base p f e re → Written t log re.events next u → enter re.next (base + e) ≡ f
      → length u ≡ length t → Looped set w base a t₀ log₀ f e u next
  looped_on {e} {re} {next} {u} d n g l = record {
    from = omega (arith, c.from, d.on);
    came = record {
      within = d.within;
      is =
          ap (λ (x : Stand). lands base u next (pieces set x (base + e) (drop e w))) (sym g)
          ∙ lands_written base (pieces set (enter re.next (base + e)) (base + e) (drop e w)) n
          ∙ ap (lands base t log) (sym d.is)
          ∙ c.came.is;
    };
    long = l ∙ c.long;
  }

  pub looped_still : {e : ℕ} {re : Reaction State} → Piece set w base p f e re → re.events ≡ [] → enter re.next (base + e) ≡ f → Looped set w base a t₀ log₀ f e t log
  unfolding pour
  looped_still d q g = looped_on d (record { is = rw q }) g refl

  -- on to the same stand
  pub looped_again : {k u : List ℕ} {r : Spot} → Leaves set w base p k t log f r u → state_of k r.phase ≡ f → length u ≡ length t
      → Looped set w base a t₀ log₀ f r.taken u r.log
  looped_again {k} {u} {r} l g n = record {
    from = omega (arith, c.from, l.farther);
    came = record {
      within = l.came.within;
      is = ap (λ (x : Stand). lands base u r.log (pieces set x (base + r.taken) (drop r.taken w))) (sym g) ∙ l.came.is ∙ c.came.is;
    };
    long = n ∙ c.long;
  }

  pub looped_leaves : {k u : List ℕ} {r : Spot} → Leaves set w base p k t log f r u → Leaves set w base a k t₀ log₀ f r u
  looped_leaves l = came_leaves c.from c.came l

  pub looped_goes : {k u : List ℕ} {r : Spot} → Goes set w base p k t log f r u → Goes set w base a k t₀ log₀ f r u
  looped_goes l = came_goes c.came l

-- ---- where a level is left
pub popped_out : (k : List ℕ) (m : Mail) {i : ℕ} (to : ℕ) {r : Phase} → i ≡ 0 → Enters k (after_mail m to) to r → Enters k (popped m (outside k i) to) to r
unfolding popped outside
popped_out k m to h g = rw h g

pub popped_in : (k : List ℕ) {m : Mail} {i : ℕ} (to : ℕ) {x : Heard} → (i ≡ 0 → ⊥) → i ≤ 8 → Begins m to → x ≡ unheard → Enters k (popped m (outside k i) to) to (is.Head m x i)
unfolding popped outside enter enters state_of Fits clipped copied
popped_in k {m} {i} to h g b u =
    let z : i ≡ suc (i - 1) = omega arith in
    let o : outside k i ≡ slot k (i - 1) ∷ outside k (i - 1) = ap (outside k) z in
    let q : popped m (outside k i) to ≡ reads (phase.head m unknown (outside k i)) =
    ap (λ (os : List (List ℕ)). popped m os to) o ∙ ap (λ (os : List (List ℕ)). reads (phase.head m unknown os)) (sym o) in
    let r : state_of k (is.Head m unheard i) ≡ enter (reads (phase.head m unknown (outside k i))) to = refl in
    record { is = rw (u, q) r; fits = (g, b) }

-- the header of a mail begins
pub first_head : (k : List ℕ) {m : Mail} (to : ℕ) {x : Heard} → Begins m to → x ≡ unheard → Enters k (reads (phase.head m unknown [])) to (is.Head m x 0)
unfolding enter enters state_of Fits outside clipped copied
first_head k to b u = rw u (record { is = refl; fits = (omega arith, b) })
