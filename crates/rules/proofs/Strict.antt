-- What the strict setting does to a session: nothing where it is off, and nothing where every line ends in CRLF; else it cuts the session short, with 11.
-- Assumes nothing.
use mathlib.Core.Path.{◌≡◌, refl, sym, ap, ◌∙◌}
use mathlib.Core.Bool.{Bool, true, false, ◌&&◌}
use mathlib.Core.List.{List, [], ◌++◌, append_assoc}
use Prim.Native.Nat.{ℕ, ◌+◌, ◌<◌}
use lib.ListN.{length}
use Rattle.events.specs.declared.Event.{Event}
use Rattle.events.specs.declared.Outcome.TheVariants.{BareLf}
use Rattle.reading.proofs.Places.{by_test}
use Rattle.reading.specs.Reading.{Need, Got, got, short, reach, parted, fetch}
use Rattle.rules.proofs.Machines as machine
use Rattle.rules.proofs.Machines.{Reads, fetching}
use Rattle.rules.specs.Machine.{Reaction, Ran, stay, before, run}
use Rattle.rules.specs.Phases.{State, ends, need}
use Rattle.rules.specs.Sessions.{fetches, react, session}
use Rattle.rules.specs.Strict.{is_bare, strictly, Crlf, over, on, react_with, session_with}
use Rattle.rules.specs.declared.Settings.{Settings}

pub and_on : (b : Bool) → (b && true) ≡ b
and_on true = refl
and_on false = refl

pub and_off : (b : Bool) → (b && false) ≡ false
and_off true = refl
and_off false = refl

-- x is y; or x was refused, and its events are the first of y's
pub data Shortened {State : Type 0} (refused : ℕ → State) (x y : Ran State) : Type 0 where
  alike : x ≡ y → Shortened refused x y
  cut_at : (p : ℕ) → x.state ≡ refused p → (more : List Event) → y.events ≡ x.events ++ more → Shortened refused x y

behind : {State : Type 0} {refused : ℕ → State} (es : List Event) {x y x' y' : Ran State} → x' ≡ before es x → y' ≡ before es y → Shortened refused x y → Shortened refused x' y'
behind {State} es a b (alike e) = alike (a ∙ ap (before es) e ∙ sym b)
behind {State} es {x} a b (cut_at p e more g) =
    cut_at p (ap (λ (o : Ran State). o.state) a ∙ e) more
    (ap (λ (o : Ran State). o.events) b ∙ ap (λ (fs : List Event). es ++ fs) g ∙ sym (append_assoc es x.events more)
    ∙ ap (λ (o : Ran State). o.events ++ more) (sym a))

-- ---- every line ends in CRLF: a machine that does the same with all pieces but bare lines runs the same
module _ {State : Type 0} (need : State → Need) (react other : State → ℕ → List ℕ → Reaction State) {read : State → List ℕ → Got} (law : Reads State read)
    (same : (st : State) (at : ℕ) (p : List ℕ) → is_bare (need st) p ≡ false → other st at p ≡ react st at p) where
  pub crlf_same : (st : State) (at : ℕ) (s : List ℕ) → Crlf need react read st at s → run State read other st at s ≡ run State read react st at s
  crlf_same st at s (over e) = machine.run_short State read other law st at s e ∙ sym (machine.run_short State read react law st at s e)
  crlf_same st at s (on p r e h c) =
      machine.run_got State read other law st at s p r e
      ∙ ap (λ (x : Reaction State). before x.events (run State read other x.next (at + length p) r)) (same st at p h)
      ∙ ap (before (react st at p).events) (crlf_same (react st at p).next (at + length p) r c)
      ∙ sym (machine.run_got State read react law st at s p r e)

-- ---- any machine
module _ {State : Type 0} (need : State → Need) (react : State → ℕ → List ℕ → Reaction State) {read : State → List ℕ → Got} (law : Reads State read)
    (refused : ℕ → State) (strict : Bool) where
  abbrev does : State → ℕ → List ℕ → Reaction State
  does = strictly need react refused strict

  abbrev Strictly : State → ℕ → List ℕ → Ran State
  Strictly = run State read does

  abbrev Plainly : State → ℕ → List ℕ → Ran State
  Plainly = run State read react

  -- a piece that does not refuse
  passes : (st : State) (at : ℕ) (p : List ℕ) → (is_bare (need st) p && strict) ≡ false → does st at p ≡ react st at p
  unfolding strictly
  passes st at p h = rw h

  waits : (st : State) (at : ℕ) (s : List ℕ) → read st s ≡ short → Strictly st at s ≡ Plainly st at s
  waits st at s e = machine.run_short State read does law st at s e ∙ sym (machine.run_short State read react law st at s e)

  goes_on_lem : (st : State) (at : ℕ) (s p r : List ℕ) → read st s ≡ got p r → (is_bare (need st) p && strict) ≡ false
      → Strictly st at s ≡ before (react st at p).events (Strictly (react st at p).next (at + length p) r)
  goes_on_lem st at s p r e h =
      machine.run_got State read does law st at s p r e
      ∙ ap (λ (x : Reaction State). before x.events (Strictly x.next (at + length p) r)) (passes st at p h)

  same_on : (st : State) (at : ℕ) (s p r : List ℕ) → read st s ≡ got p r → (is_bare (need st) p && strict) ≡ false
      → Strictly (react st at p).next (at + length p) r ≡ Plainly (react st at p).next (at + length p) r → Strictly st at s ≡ Plainly st at s
  same_on st at s p r e h i = goes_on_lem st at s p r e h ∙ ap (before (react st at p).events) i ∙ sym (machine.run_got State read react law st at s p r e)

  -- whose refusals read nothing more
  module _ (final : (p : ℕ) (s : List ℕ) → read (refused p) s ≡ short) where
    -- the line at `at` refuses
    refuses : (st : State) (at : ℕ) (s p r : List ℕ) → read st s ≡ got p r → (is_bare (need st) p && strict) ≡ true → Strictly st at s ≡ stay (refused at) (at + length p) r
    unfolding strictly
    refuses st at s p r e h =
        let d : does st at p ≡ record { events = []; next = refused at } = rw h in
        machine.run_got State read does law st at s p r e
        ∙ ap (λ (x : Reaction State). before x.events (Strictly x.next (at + length p) r)) d
        ∙ machine.run_short State read does law (refused at) (at + length p) r (final at r)

    short_turn : (st : State) (at : ℕ) (s : List ℕ) (g : Got) → read st s ≡ g
        → ((su : State) (to : ℕ) (r : List ℕ) → length r < length s → Shortened refused (Strictly su to r) (Plainly su to r))
        → Shortened refused (Strictly st at s) (Plainly st at s)
    short_turn st at s short e ih = alike (waits st at s e)
    short_turn st at s (got p r) e ih =
        by_test (is_bare (need st) p && strict)
        (λ h.
        let o = refuses st at s p r e h in
        cut_at at (ap (λ (x : Ran State). x.state) o) (Plainly st at s).events (ap (λ (x : Ran State). x.events ++ (Plainly st at s).events) (sym o)))
        (λ h.
        behind (react st at p).events (goes_on_lem st at s p r e h) (machine.run_got State read react law st at s p r e)
        (ih (react st at p).next (at + length p) r (machine.shorter State read react law st s p r e)))

    -- the setting changes nothing but to cut a run short
    pub shortened : (st : State) (at : ℕ) (s : List ℕ) → Shortened refused (Strictly st at s) (Plainly st at s)
    shortened = machine.by_turns State read react law (λ st at s. Shortened refused (Strictly st at s) (Plainly st at s)) short_turn

-- the setting is off
module _ {State : Type 0} (need : State → Need) (react : State → ℕ → List ℕ → Reaction State) {read : State → List ℕ → Got} (law : Reads State read)
    (refused : ℕ → State) where
  off_turn : (st : State) (at : ℕ) (s : List ℕ) (g : Got) → read st s ≡ g
      → ((su : State) (to : ℕ) (r : List ℕ) → length r < length s → Strictly need react law refused false su to r ≡ run State read react su to r)
      → Strictly need react law refused false st at s ≡ run State read react st at s
  off_turn st at s short e ih = waits need react law refused false st at s e
  off_turn st at s (got p r) e ih =
      same_on need react law refused false st at s p r e (and_off (is_bare (need st) p))
      (ih (react st at p).next (at + length p) r (machine.shorter State read react law st s p r e))

  pub off_same : (st : State) (at : ℕ) (s : List ℕ) → run State read (strictly need react refused false) st at s ≡ run State read react st at s
  off_same = machine.by_turns State read react law (λ st at s. run State read (strictly need react refused false) st at s ≡ run State read react st at s) off_turn

-- ---- the sessions
none_read : (p : ℕ) (s : List ℕ) → fetches (ends BareLf p) s ≡ short
unfolding need fetch reach parted
none_read p s = refl

-- off, a session is document 01's
pub off : (set : Settings) → set.strict ≡ false → (st : State) (at : ℕ) (s : List ℕ) → session_with set st at s ≡ session st at s
off set h st at s = rw h (off_same need react fetching (ends BareLf) st at s)

-- on, it is so where every line that it reads ends in CRLF
pub crlf_session : (set : Settings) (st : State) (at : ℕ) (s : List ℕ) → Crlf need react fetches st at s → session_with set st at s ≡ session st at s
unfolding strictly
crlf_session set = crlf_same need react (react_with set) fetching (λ st at p h. rw h)

abbrev pub CutShort : Ran State → Ran State → Type 0
CutShort = Shortened (ends BareLf)

-- and else it is cut short
pub cut_short : (set : Settings) (st : State) (at : ℕ) (s : List ℕ) → CutShort (session_with set st at s) (session st at s)
cut_short set = shortened need react fetching (ends BareLf) set.strict none_read

-- how a session with settings runs
pub with_short : (set : Settings) (st : State) (at : ℕ) (s : List ℕ) → fetch (need st) s ≡ short → session_with set st at s ≡ stay st at s
with_short set = machine.run_short State fetches (react_with set) fetching

pub with_got : (set : Settings) (st : State) (at : ℕ) (s p r : List ℕ) → fetch (need st) s ≡ got p r
    → session_with set st at s ≡ before (react_with set st at p).events (session_with set (react_with set st at p).next (at + length p) r)
with_got set = machine.run_got State fetches (react_with set) fetching
