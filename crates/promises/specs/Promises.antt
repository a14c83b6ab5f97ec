-- What the promises speak of: what a call of an entry comes to, and what the entry's contract asks of that.
-- Assumes nothing.
use Rattle.std.specs.Prelude.{◌≡◌, List, ℕ, ◌*◌, length, drop}
use Rattle.events.specs.Events.{width}
use Rattle.events.specs.Table.{final_of}
use Rattle.events.specs.declared.Answer.{Answer}
use Rattle.events.specs.declared.Event.{Event}
use Rattle.rules.specs.Phases.{reads}
use Rattle.rules.specs.Sessions.{session, start_of, answer_of}
use Rattle.rules.specs.declared.Entry.{Entry}

-- a call's exit: the table then, and the answer
pub record Exit : Type 0 where
  pub table : List ℕ
  pub answer : Answer

-- the contract of an entry, called with the table t on the session s: crates/sessions/src/lib.rt
pub record Owes (e : Entry) (t s : List ℕ) (x : Exit) : Type 0 where
  pub is : final_of x.table x.answer ≡ answer_of e t s

-- the table t has kept its length, and every number past the events
pub record Untouched (t : List ℕ) (x : Exit) : Type 0 where
  pub long : length x.table ≡ length t
  pub behind : drop (x.answer.count * width) x.table ≡ drop (x.answer.count * width) t

-- any two that meet a contract are identical
abbrev pub Determined : {A : Type 0} → (A → Type 0) → Type 0
Determined {A} Meets = (x y : A) → Meets x → Meets y → x ≡ y

-- all events of a session, whatever table there is
unfoldable pub session_events : Entry → List ℕ → List Event
session_events e s = (session (reads (start_of e)) 0 s).events
