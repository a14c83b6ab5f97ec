-- The strict setting: document 02, W6. A wrapper around what a machine does with its pieces, over any machine whose states say what they read.
-- Assumes nothing.
use Rattle.std.specs.Prelude.{◌≡◌, Bool, false, cond, not, ◌&&◌, List, [], ℕ, ◌+◌, length}
use Rattle.events.specs.declared.Outcome.TheVariants.{BareLf}
use Rattle.reading.specs.Bytes.{ends_with}
use Rattle.reading.specs.Reading.{Need, a_line, bytes, delimiter, nothing, crlf, Got, got, short}
use Rattle.rules.specs.Machine.{Reaction, Ran, run}
use Rattle.rules.specs.Phases.{State, ends, need}
use Rattle.rules.specs.Sessions.{fetches, react}
use Rattle.rules.specs.declared.Settings.{Settings}

-- a line whose LF has no CR directly before it in the line; what is read otherwise is no line
unfoldable pub is_bare : Need → List ℕ → Bool
is_bare a_line l = not (ends_with crlf l)
is_bare (bytes n) l = false
is_bare (delimiter b) l = false
is_bare nothing l = false

module _ {State : Type 0} (need : State → Need) (react : State → ℕ → List ℕ → Reaction State) where
  -- with the setting on, such a line refuses, before its event and every other test of it; `refused` is the state that this leads to, by the line's place
  unfoldable pub strictly : (refused : ℕ → State) → Bool → State → ℕ → List ℕ → Reaction State
  strictly refused strict st at l = cond (is_bare (need st) l && strict) (record { events = []; next = refused at }) (react st at l)

  -- every line of a run ends in CRLF, `read` being what the machine reads
  pub data Crlf (read : State → List ℕ → Got) : State → ℕ → List ℕ → Type 0 where
    over : {st : State} {at : ℕ} {s : List ℕ} → read st s ≡ short → Crlf read st at s
    on : {st : State} {at : ℕ} {s : List ℕ} (p r : List ℕ) → read st s ≡ got p r → is_bare (need st) p ≡ false
        → Crlf read (react st at p).next (at + length p) r → Crlf read st at s

-- ---- the sessions, with what was chosen: 11, place that line
abbrev pub lax : Settings
lax = record { strict = false }

abbrev pub react_with : Settings → State → ℕ → List ℕ → Reaction State
react_with set = strictly need react (ends BareLf) set.strict

abbrev pub session_with : Settings → State → ℕ → List ℕ → Ran State
session_with set st at s = run State fetches (react_with set) st at s
