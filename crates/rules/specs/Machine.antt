-- A session as a machine: each state asks for one read, and reacts to the piece that it got with events and the next state.
-- Assumes nothing.
use Rattle.std.specs.Prelude.{List, [], ◌++◌, ℕ, zero, suc, ◌+◌, length}
use Rattle.events.specs.declared.Event.{Event}
use Rattle.reading.specs.Reading.{Got, got, short}

pub record Reaction (State : Type 0) : Type 0 where
  pub events : List Event
  pub next : State

-- what a run has come to: the events, the state, its position, and the bytes not taken
pub record Ran (State : Type 0) : Type 0 where
  pub events : List Event
  pub state : State
  pub at : ℕ
  pub rest : List ℕ

abbrev pub stay : {State : Type 0} → State → ℕ → List ℕ → Ran State
stay st at s = record { events = []; state = st; at = at; rest = s }

abbrev pub before : {State : Type 0} → List Event → Ran State → Ran State
before es o = record { events = es ++ o.events; state = o.state; at = o.at; rest = o.rest }

-- `read` says what a state takes at the front of the bytes
module _ (State : Type 0) (read : State → List ℕ → Got) (react : State → ℕ → List ℕ → Reaction State) where
  -- a read that needs bytes beyond the end leaves all as it is; a piece is reacted to, and k goes on behind it
  unfoldable pub turn : (State → ℕ → List ℕ → Ran State) → State → ℕ → List ℕ → Got → Ran State
  turn k st at s short = stay st at s
  turn k st at s (got p r) = before (react st at p).events (k (react st at p).next (at + length p) r)

  -- at most so many turns
  unfoldable pub go : ℕ → State → ℕ → List ℕ → Ran State
  go zero st at s = stay st at s
  go (suc n) st at s = turn (go n) st at s (read st s)

  -- every read takes a byte at least, so that as many turns as bytes suffice
  unfoldable pub run : State → ℕ → List ℕ → Ran State
  run st at s = go (length s) st at s
