-- Demand 3: which bytes of a session may be replaced so that its answer stays the same.
-- Assumes nothing.
use Rattle.std.specs.Prelude.{◌≡◌, Bool, true, not, ◌&&◌, ◌||◌, List, [], ◌∷◌, ℕ, zero, suc, ◌+◌, ◌<◌, eqb, leb, ltb, length, get_or}
use Rattle.events.specs.Events.{body_line, sized_body, user, password}
use Rattle.events.specs.Table.{Final, event_at}
use Rattle.events.specs.declared.Event.{Event}

-- the place p lies inside an event
unfoldable pub inside : Event → ℕ → Bool
inside e p = leb e.offset p && ltb p (e.offset + e.length)

-- neither CR nor LF
unfoldable pub no_line_end : ℕ → Bool
no_line_end b = not (eqb b 13) && not (eqb b 10)

abbrev pub dot : ℕ
dot = 46

-- inside an event of this kind the byte b may become c: in a user, a password and a body line no CR or LF is replaced or brought in, and no dot
-- brought in; in a sized body any byte may become any
unfoldable pub may_turn : ℕ → ℕ → ℕ → Bool
may_turn kind b c =
    ((eqb kind user || (eqb kind password || eqb kind body_line)) && (no_line_end b && (no_line_end c && not (eqb c dot))))
    || eqb kind sized_body

-- at the place p the byte b may become c: it stays, or p lies inside an event that allows it
unfoldable pub may : List Event → ℕ → ℕ → ℕ → Bool
may [] p b c = eqb b c
may (e ∷ es) p b c = (inside e p && may_turn e.kind b c) || may es p b c

-- u is s with bytes replaced so; s begins at the session's place `at`
pub record Replaced (es : List Event) (at : ℕ) (s u : List ℕ) : Type 0 where
  pub long : length u ≡ length s
  pub bytes : (p : ℕ) → p < length s → may es (at + p) (get_or s p 0) (get_or u p 0) ≡ true

-- ---- the events that an answer gives: those in its table

-- n events from slot i on
unfoldable pub events_in : List ℕ → ℕ → ℕ → List Event
events_in t i zero = []
events_in t i (suc n) = event_at t i ∷ events_in t (i + 1) n

unfoldable pub events_of : Final → List Event
events_of f = events_in f.table 0 f.count
