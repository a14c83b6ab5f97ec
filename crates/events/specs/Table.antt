-- Events go into the table from the front: document 01, 'The event table' and refusal 10 of 'What comes back'.
-- Assumes nothing.
use Rattle.std.specs.Prelude.{◌≡◌, Bool, cond, List, [], ◌∷◌, ℕ, ◌+◌, ◌*◌, ◌/◌, ltb, length, get_or, Option, Some, None}
use Rattle.std.proofs.lemmas.List.Edits.{sets}
use Rattle.events.specs.Events.{width, numbers}
use Rattle.events.specs.declared.Answer.{Answer}
use Rattle.events.specs.declared.Event.{Event}
use Rattle.events.specs.declared.Log.{Log}
use Rattle.events.specs.declared.Outcome.{Outcome}
use Rattle.events.specs.declared.Outcome.TheVariants.{TableFull}

-- so many events can be held
abbrev pub slots : List ℕ → ℕ
slots t = length t / width

-- the table with an event's numbers in slot n
unfoldable pub store : List ℕ → ℕ → Event → List ℕ
store t n e = sets t (n * width) (numbers e)

-- the event whose numbers stand in slot n
unfoldable pub event_at : List ℕ → ℕ → Event
event_at t n =
    record {
      kind = get_or t (n * width) 0;
      offset = get_or t (n * width + 1) 0;
      length = get_or t (n * width + 2) 0;
      encoding = get_or t (n * width + 3) 0;
    }

-- what a writer knows is the log's: a slot is free while the events so far are fewer than the slots
abbrev pub free : List ℕ → Log → Bool
free t log = ltb log.count (slots t)

abbrev pub no_events : Log
no_events = record { count = 0 }

-- with one event more
abbrev pub counted : Log → Log
counted log = record { count = log.count + 1 }

-- what has become of events and a table: all are written; or the one due at a place found no slot. The log knows how many are
pub data Poured : Type 0 where
  all : (table : List ℕ) (log : Log) → Poured
  full : (table : List ℕ) (place : ℕ) (log : Log) → Poured

-- events go to the slots behind those of the log, from the first free one on
unfoldable pub pour : List Event → List ℕ → Log → Poured
pour [] t log = all t log
pour (e ∷ es) t log = cond (free t log) (pour es (store t log.count e) (counted log)) (full t e.offset log)

-- what a session comes to: the table afterwards, result, place, event count
pub record Final : Type 0 where
  pub table : List ℕ
  pub result : Outcome
  pub place : ℕ
  pub count : ℕ

abbrev pub final : List ℕ → Outcome → ℕ → ℕ → Final
final t r p n = record { table = t; result = r; place = p; count = n }

-- an answer and the table then
abbrev pub final_of : List ℕ → Answer → Final
final_of t a = final t a.result a.place a.count

-- the result and place given, unless an event found no slot: then refusal 10 at that event's offset
unfoldable pub finish : Poured → Outcome → ℕ → Final
finish (all t log) r p = final t r p log.count
finish (full t q log) r p = final t TableFull q log.count

-- what `put` answers, and the table then
abbrev pub put_of : List ℕ → Log → Option Log
put_of t log = cond (free t log) (Some (counted log)) None

abbrev pub table_of : List ℕ → Log → Event → List ℕ
table_of t log e = cond (free t log) (store t log.count e) t

pub record Puts (t : List ℕ) (log : Log) (e : Event) (r : Option Log) (u : List ℕ) : Type 0 where
  pub answer : r ≡ put_of t log
  pub table : u ≡ table_of t log e
