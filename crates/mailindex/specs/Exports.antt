-- What a caller in C gets: the table, an answer's numbers, and a session between windows as numbers.
-- Assumes nothing.
use Rattle.std.specs.Prelude.{◌≡◌, Bool, true, false, cond, not, ◌&&◌, List, [], ◌∷◌, ℕ, zero, suc, eqb, get_or, replicate, Option, Some, None}
use Rattle.direction.specs.Direction.{Side, side}
use Rattle.events.specs.Events.{result_number}
use Rattle.events.specs.Table.{Final}
use Rattle.events.specs.declared.Answer.{Answer}
use Rattle.events.specs.declared.Outcome.TheVariants.{Incomplete, NoSession}
use Rattle.flat.specs.Flats as flat
use Rattle.rules.specs.declared.Entry.{Entry}
use Rattle.rules.specs.declared.Entry.TheVariants.{SmtpClient, SmtpServer, Pop3Server, ImapClient}
use Rattle.rules.specs.declared.Settings.{Settings}
use Rattle.tap.specs.Tapping.{Begun, Shows, session_with}
use Rattle.tap.specs.declared.Session.{Session}
use Rattle.tap.specs.declared.Shown.{Shown}
use Rattle.mailindex.specs.declared.Chosen.{Chosen}

-- MAILINDEX_VERSION of include/mailindex.h
abbrev pub version : ℕ
version = 4

-- result, place, count
abbrev pub numbers_of : Answer → List ℕ
numbers_of a = result_number a.result ∷ a.place ∷ a.count ∷ []

-- a mark that is not 0 says that a payload is held
abbrev pub held : ℕ → Bool
held mark = not (eqb mark 0)

-- one side, by its port, its mark and its payload
abbrev pub marked : ℕ → ℕ → List ℕ → Side
marked port mark payload = side port (held mark) payload

-- u is the table that f says, and n the numbers of its result, place and count
pub record Answers (f : Final) (u n : List ℕ) : Type 0 where
  pub table : u ≡ f.table
  pub numbers : n ≡ result_number f.result ∷ f.place ∷ f.count ∷ []

-- ---- by windows: a session is held as numbers and copies of its open boundaries
abbrev pub session_of : List ℕ → List ℕ → Session
session_of ns k = session_with (flat.settings_of ns) (flat.phase_of ns) (flat.taken_of ns) (flat.log_of ns) k

abbrev pub session_numbers : Session → List ℕ
session_numbers s = flat.numbers_of s.settings s.phase s.at s.log

-- ns and k hold the session s
pub record Holds (s : Session) (ns k : List ℕ) : Type 0 where
  pub numbers : ns ≡ session_numbers s
  pub copies : k ≡ s.boundaries

-- choices 2 to i are not made: each is 0
unfoldable pub unset : List ℕ → ℕ → Bool
unset cs zero = true
unset cs (suc zero) = true
unset cs (suc (suc i)) = eqb (get_or cs (suc (suc i)) 0) 0 && unset cs (suc i)

unfoldable pub entry_by : ℕ → Option Entry
entry_by n =
    cond (eqb n 1) (Some SmtpClient)
    (cond (eqb n 2) (Some SmtpServer)
    (cond (eqb n 3) (Some Pop3Server)
    (cond (eqb n 4) (Some ImapClient)
    None)))

abbrev pub with_strict : Bool → Option Entry → Option Chosen
with_strict b (Some e) = Some (record { entry = e; settings = record { strict = b } })
with_strict b None = None

-- the strict setting is off or on
unfoldable pub strict_by : ℕ → ℕ → Option Chosen
strict_by n e = cond (eqb n 0) (with_strict false (entry_by e)) (cond (eqb n 1) (with_strict true (entry_by e)) None)

-- choice 0 is the entry, choice 1 the strict setting; the six others have no name yet
abbrev pub chosen : List ℕ → Option Chosen
chosen cs = cond (unset cs 7) (strict_by (get_or cs 1 0) (get_or cs 0 0)) None

-- a session of the entry e with these settings is begun, and held; r says that it waits for bytes
pub record BeginsWith (set : Settings) (e : Entry) (ns k : List ℕ) (r : ℕ) : Type 0 where
  pub session : Session
  pub begun : Begun set e session
  pub holds : Holds session ns k
  pub result : r ≡ result_number Incomplete

-- choices that name none begin nothing: what is held is no session, and r says so
pub record BeginsNone (ns k : List ℕ) (r : ℕ) : Type 0 where
  pub numbers : ns ≡ replicate 24 0
  pub copies : k ≡ replicate 648 0
  pub result : r ≡ result_number NoSession

abbrev pub Begins : Option Chosen → List ℕ → List ℕ → ℕ → Type 0
Begins (Some c) ns k r = BeginsWith c.settings c.entry ns k r
Begins None ns k r = BeginsNone ns k r

-- result, place, count and how many bytes were taken
abbrev pub shown_of : Answer → ℕ → List ℕ
shown_of a taken = result_number a.result ∷ a.place ∷ a.count ∷ taken ∷ []

-- a window is shown to what ns and k hold, as `show` does it: ns' and k' hold the session then, u is the table, n the answer
pub record Showing (ns k w t ns' k' u n : List ℕ) : Type 0 where
  pub shown : Shown
  pub shows : Shows (session_of ns k) w t shown u
  pub holds : Holds shown.session ns' k'
  pub answer : n ≡ shown_of shown.answer shown.taken
