-- What `begin` and `show` answer: a record of the code stands for one of the definition, and a window does with it what the definition says.
-- Assumes nothing.
use Rattle.std.specs.Prelude.{◌≡◌, Bool, true, false, ◌&&◌, List, ℕ, zero, suc, ◌+◌, ◌*◌, leb, get_or}
use Rattle.events.specs.Table.{final_of}
use Rattle.events.specs.declared.Answer.{Answer}
use Rattle.events.specs.declared.Log.{Log}
use Rattle.events.specs.declared.Outcome.TheVariants.{Incomplete, NoSession}
use Rattle.phases.specs.Phasing.{state_of}
use Rattle.phases.specs.declared.Phase.{Phase}
use Rattle.phases.specs.declared.Phase.TheVariants as is
use Rattle.phases.specs.declared.Spot.{Spot}
use Rattle.rules.specs.Sessions.{limit, start_of}
use Rattle.rules.specs.declared.Entry.{Entry}
use Rattle.rules.specs.declared.Entry.TheVariants.{SmtpClient, SmtpServer, Pop3Server, ImapClient}
use Rattle.rules.specs.declared.Mail.{Mail}
use Rattle.rules.specs.declared.Mail.TheVariants.{Smtp, Pop3, Imap}
use Rattle.rules.specs.declared.Settings.{Settings}
use Rattle.windows.specs.Windows.{Record, begins, said, window, taken}
use Rattle.tap.specs.declared.Seen.{Seen}
use Rattle.tap.specs.declared.Session.{Session}
use Rattle.tap.specs.declared.Shown.{Shown}

-- the record of the definition
abbrev pub record_of : Session → Record
record_of s = record { stand = state_of s.boundaries s.phase; at = s.at; log = s.log }

-- ---- which records are a session's: their numbers are such as can come

-- an IMAP mail's header began at a place or before
unfoldable pub begun_by : Mail → ℕ → Bool
begun_by Smtp at = true
begun_by Pop3 at = true
begun_by (Imap size start) at = leb start at

-- at most seven levels are outside an open boundary, eight outside a header; a body under way began before
unfoldable pub fits_by : Phase → ℕ → Bool
fits_by is.Hello at = true
fits_by is.Second at = true
fits_by is.User at = true
fits_by is.Password at = true
fits_by is.Sender at = true
fits_by is.Seeking at = true
fits_by is.Recipient at = true
fits_by is.Reply at = true
fits_by is.Status at = true
fits_by is.Command at = true
fits_by (is.Offered size) at = true
fits_by is.Closing at = true
fits_by (is.Head m x i) at = leb i 8 && begun_by m at
fits_by (is.Text m e) at = true
fits_by (is.Literal e from left) at = leb from at
fits_by (is.Preamble m i from here) at = leb from at && (leb i 7 && begun_by m at)
fits_by (is.Opened m i) at = leb i 7 && begun_by m at
fits_by (is.Content m e i from here) at = leb from at && (leb i 7 && begun_by m at)
fits_by (is.Between m i) at = leb i 7 && begun_by m at
fits_by (is.Skipping m i) at = leb i 7 && begun_by m at
fits_by (is.Resting m i n) at = leb i 7 && begun_by m at
fits_by (is.Over r p) at = true

-- the copies below number i have at most 71 bytes each
unfoldable pub short_to : List ℕ → ℕ → Bool
short_to k zero = true
short_to k (suc i) = leb (get_or k (i * 72) 0) 71 && short_to k i

abbrev pub is_sound : Session → Bool
is_sound s = leb s.at limit && (short_to s.boundaries 9 && fits_by s.phase s.at)

-- ---- a session is begun
abbrev pub starts_at : Entry → Phase
starts_at SmtpClient = is.Hello
starts_at SmtpServer = is.Reply
starts_at Pop3Server = is.Status
starts_at ImapClient = is.Command

pub record Begun (set : Settings) (e : Entry) (s : Session) : Type 0 where
  pub is : record_of s ≡ begins (start_of e)
  pub settings : s.settings ≡ set
  pub sound : is_sound s ≡ true

-- ---- a window is shown

-- to a session: record, table, answer and what is taken are the definition's, its settings stay, and it stays one
pub record Read (s : Session) (w t : List ℕ) (r : Shown) (u : List ℕ) : Type 0 where
  pub is : record { next = record_of r.session; table = u } ≡ window s.settings (record_of s) t w
  pub settings : r.session.settings ≡ s.settings
  pub answer : final_of u r.answer ≡ said (record_of r.session) u
  pub taken : r.taken ≡ taken (record_of s) (window s.settings (record_of s) t w)
  pub sound : is_sound r.session ≡ true

-- to any other record: nothing is taken and nothing written
pub record Unread (s : Session) (t : List ℕ) (r : Shown) (u : List ℕ) : Type 0 where
  pub is : r ≡ record { session = s; answer = record { result = NoSession; place = 0; count = 0 }; taken = 0 }
  pub table : u ≡ t

abbrev pub ShowsIf : Bool → Session → List ℕ → List ℕ → Shown → List ℕ → Type 0
ShowsIf true s w t r u = Read s w t r u
ShowsIf false s w t r u = Unread s t r u

abbrev pub Shows : Session → List ℕ → List ℕ → Shown → List ℕ → Type 0
Shows s w t r u = ShowsIf (is_sound s) s w t r u

-- the same by parts, where the copies are lent
abbrev pub session_with : Settings → Phase → ℕ → Log → List ℕ → Session
session_with set ph at log k = record { settings = set; phase = ph; at = at; log = log; boundaries = k }

abbrev pub shown_with : Settings → Seen → List ℕ → Shown
shown_with set r k = record { session = session_with set r.phase r.at r.log k; answer = r.answer; taken = r.taken }

-- ---- below `show`

abbrev pub waiting_at : ℕ → Log → Answer
waiting_at p log = record { result = Incomplete; place = p; count = log.count }

pub record Left (set : Settings) (spot : Spot) (at : ℕ) (k : List ℕ) (r : Shown) : Type 0 where
  pub is : r ≡ record {
    session = session_with set spot.phase at spot.log k;
    answer = record { result = NoSession; place = 0; count = 0 };
    taken = 0;
  }

pub record Answers (set : Settings) (spot : Spot) (base : ℕ) (k : List ℕ) (r : Shown) : Type 0 where
  pub session : r.session ≡ session_with set spot.phase (base + spot.taken) spot.log k
  pub answer : (u : List ℕ) → final_of u r.answer ≡ said (record_of r.session) u
  pub taken : r.taken ≡ spot.taken
