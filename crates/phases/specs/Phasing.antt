-- What the phases of the code stand for, and what their functions answer: what is left to do of a window stays the same.
-- Assumes nothing.
use Rattle.std.specs.Prelude.{◌≡◌, Bool, true, false, cond, ◌&&◌, List, [], ◌∷◌, ℕ, zero, suc, ◌+◌, ◌*◌, ◌≤◌, ◌<◌, eqb, ltb, length, take, drop, get_or, Option, None, Some, Result, Ok, Err}
use Rattle.events.specs.Events.{ev, result_number}
use Rattle.events.specs.declared.Encoding.{Encoding}
use Rattle.events.specs.declared.Encoding.TheVariants.{Unsaid}
use Rattle.events.specs.declared.Event.{Event}
use Rattle.events.specs.declared.Log.{Log}
use Rattle.events.specs.declared.Outcome.{Outcome}
use Rattle.events.specs.declared.Outcome.TheVariants.{BareLf}
use Rattle.fields.specs.Common.{Known, part, scanned}
use Rattle.fields.specs.Smtp.{rcpt_to}
use Rattle.reading.specs.Bytes.{ends_with}
use Rattle.reading.specs.Reading.{a_line, two, clean, crlf, dash}
use Rattle.reads.specs.Clauses.{Ends, Stops, Cleaned, TwoIs, Notes, Begins}
use Rattle.reads.specs.declared.CleanLine.{CleanLine}
use Rattle.reads.specs.declared.Stop.{Stop}
use Rattle.reads.specs.declared.Two.{Two}
use Rattle.rules.specs.Machine.{Reaction, stay, before}
use Rattle.rules.specs.Mail.{begun}
use Rattle.rules.specs.Phases as phase
use Rattle.rules.specs.Phases.{State, reads, ends, wants, then}
use Rattle.rules.specs.Sessions.{reacts}
use Rattle.rules.specs.Smtp.{by_recipient}
use Rattle.rules.specs.Strict.{is_bare}
use Rattle.rules.specs.declared.Mail.{Mail}
use Rattle.rules.specs.declared.Settings.{Settings}
use Rattle.windows.specs.Pieces.{word, piece_of, is_mark}
use Rattle.windows.specs.Stands.{Stand, fresh, in_preamble, in_content, in_literal, enter, entered, goes_on, takes, does, clipped, pieces}
use Rattle.windows.specs.Windows.{Shown, lands}
use Rattle.phases.specs.declared.Heard.{Heard}
use Rattle.phases.specs.declared.Phase.{Phase}
use Rattle.phases.specs.declared.Phase.TheVariants as is
use Rattle.phases.specs.declared.Spot.{Spot}
use Rattle.phases.specs.declared.header.Begun.{Begun}
use Rattle.phases.specs.declared.parts.Pause.{Pause}

-- ---- copies of boundaries: 72 bytes for each, its length first

abbrev pub slot : List ℕ → ℕ → List ℕ
slot k i = take (get_or k (i * 72) 0) (drop (i * 72 + 1) k)

-- those outside number i, the innermost first
unfoldable pub outside : List ℕ → ℕ → List (List ℕ)
outside k zero = []
outside k (suc i) = slot k i ∷ outside k i

-- nine slots, each with at most 71 bytes
pub record Slots (k : List ℕ) : Type 0 where
  pub long : length k ≡ 648
  pub short : (j : ℕ) → j < 9 → get_or k (j * 72) 0 ≤ 71

-- a boundary was kept at a level: those outside stay
pub record Kept (k : List ℕ) (i : ℕ) (b k' : List ℕ) : Type 0 where
  pub long : length k' ≡ length k
  pub front : take (i * 72) k' ≡ take (i * 72) k
  pub is : slot k' i ≡ take 71 b
  pub own : get_or k' (i * 72) 0 ≤ 71
  pub others : (x : ℕ) → (x ≡ i → ⊥) → get_or k' (x * 72) 0 ≡ get_or k (x * 72) 0

-- what a header has said: its boundary stands behind the open ones
abbrev pub boundary_of : List ℕ → ℕ → Heard → Option (List ℕ)
boundary_of k i x = cond x.supplied (Some (slot k i)) None

abbrev pub known_as : List ℕ → ℕ → Heard → Known
known_as k i x = record { encoding = x.encoding; type_seen = x.seen; boundary = boundary_of k i x }

abbrev pub unheard : Heard
unheard = record { encoding = Unsaid; seen = false; supplied = false }

-- ---- where a phase stands, these copies being kept
unfoldable pub state_of : List ℕ → Phase → Stand
state_of k is.Hello = fresh (reads phase.hello)
state_of k is.Second = fresh (reads phase.second)
state_of k is.User = fresh (reads phase.user)
state_of k is.Password = fresh (reads phase.password)
state_of k is.Sender = fresh (reads phase.sender)
state_of k is.Seeking = fresh (reads phase.seeking)
state_of k is.Recipient = fresh (reads phase.recipient)
state_of k is.Reply = fresh (reads phase.reply)
state_of k is.Status = fresh (reads phase.status)
state_of k is.Command = fresh (reads phase.command)
state_of k (is.Offered size) = fresh (reads (phase.offered size))
state_of k is.Closing = fresh (reads phase.closing)
state_of k (is.Head m x i) = fresh (reads (phase.head m (known_as k i x) (outside k i)))
state_of k (is.Text m e) = fresh (reads (phase.text m e))
state_of k (is.Literal e from left) = in_literal e from left
state_of k (is.Preamble m i from here) = in_preamble m (slot k i) (outside k i) from here
state_of k (is.Opened m i) = fresh (reads (phase.opened m (slot k i) (outside k i)))
state_of k (is.Content m e i from here) = in_content m e (slot k i) (outside k i) from here
state_of k (is.Between m i) = fresh (reads (phase.between m (slot k i) (outside k i)))
state_of k (is.Skipping m i) = fresh (reads (phase.skipping m (slot k i) (outside k i)))
state_of k (is.Resting m i n) = fresh (reads (phase.resting m (slot k i) (outside k i) n))
state_of k (is.Over r p) = fresh (ends r p)

-- the numbers that a phase holds, at a place of the session
unfoldable pub Fits : Phase → ℕ → Type 0
Fits is.Hello at = Unit {0}
Fits is.Second at = Unit {0}
Fits is.User at = Unit {0}
Fits is.Password at = Unit {0}
Fits is.Sender at = Unit {0}
Fits is.Seeking at = Unit {0}
Fits is.Recipient at = Unit {0}
Fits is.Reply at = Unit {0}
Fits is.Status at = Unit {0}
Fits is.Command at = Unit {0}
Fits (is.Offered size) at = Unit {0}
Fits is.Closing at = Unit {0}
Fits (is.Head m x i) at = (i ≤ 8) × Begins m at
Fits (is.Text m e) at = Unit {0}
Fits (is.Literal e from left) at = from ≤ at
Fits (is.Preamble m i from here) at = (i ≤ 7) × (from ≤ at) × Begins m at
Fits (is.Opened m i) at = (i ≤ 7) × Begins m at
Fits (is.Content m e i from here) at = (i ≤ 7) × (from ≤ at) × Begins m at
Fits (is.Between m i) at = (i ≤ 7) × Begins m at
Fits (is.Skipping m i) at = (i ≤ 7) × Begins m at
Fits (is.Resting m i n) at = (i ≤ 7) × Begins m at
Fits (is.Over r p) at = Unit {0}

-- a phase is where a state of document 01 leads, at the session's place `to`
pub record Enters (k : List ℕ) (st : State) (to : ℕ) (r : Phase) : Type 0 where
  pub is : state_of k r ≡ enter st to
  pub fits : Fits r to

-- ---- turns of a window w, whose first byte is the session's byte `base`

-- the stand f at p takes a piece up to e, and reacts so
pub record Piece (set : Settings) (w : List ℕ) (base p : ℕ) (f : Stand) (e : ℕ) (re : Reaction State) : Type 0 where
  pub on : p < e
  pub within : e ≤ length w
  pub is : pieces set f (base + p) (drop p w) ≡ before re.events (pieces set (enter re.next (base + e)) (base + e) (drop e w))

-- what is left to do stays the same: from the stand f at p, with the table t, to the stand g at q, with the table u
pub record Came (set : Settings) (w : List ℕ) (base p : ℕ) (t : List ℕ) (log : Log) (f : Stand) (q : ℕ) (u : List ℕ) (next : Log) (g : Stand) : Type 0 where
  pub within : q ≤ length w
  pub is : lands base u next (pieces set g (base + q) (drop q w)) ≡ lands base t log (pieces set f (base + p) (drop p w))

-- a window has come to a spot
abbrev pub spot_of : ℕ → List ℕ → List ℕ → Spot → Shown
spot_of base k u r = record { next = record { stand = state_of k r.phase; at = base + r.taken; log = r.log }; table = u }

-- on to another phase, by a byte at least
pub record Leaves (set : Settings) (w : List ℕ) (base p : ℕ) (k t : List ℕ) (log : Log) (f : Stand) (r : Spot) (u : List ℕ) : Type 0 where
  pub farther : p < r.taken
  pub fits : Fits r.phase (base + r.taken)
  pub came : Came set w base p t log f r.taken u r.log (state_of k r.phase)

-- the window is over
pub record Goes (set : Settings) (w : List ℕ) (base p : ℕ) (k t : List ℕ) (log : Log) (f : Stand) (r : Spot) (u : List ℕ) : Type 0 where
  pub within : r.taken ≤ length w
  pub fits : Fits r.phase (base + r.taken)
  pub is : spot_of base k u r ≡ lands base t log (pieces set f (base + p) (drop p w))

abbrev pub TurnIs : Settings → List ℕ → ℕ → ℕ → List ℕ → List ℕ → Log → Stand → Result Spot Spot → List ℕ → Type 0
TurnIs set w base p k t log f (Ok r) u = Leaves set w base p k t log f r u
TurnIs set w base p k t log f (Err r) u = Goes set w base p k t log f r u

-- the turn of a phase that copies no boundary: k stays as it is
abbrev pub TurnOf : Settings → List ℕ → ℕ → ℕ → List ℕ → List ℕ → Log → Phase → Result Spot Spot → List ℕ → Type 0
TurnOf set w base p k t log ph r u = TurnIs set w base p k t log (state_of k ph) r u

-- whatever stands at p, takes a piece up to e and reacts so: where that leads
pub record Follows (w : List ℕ) (base p e : ℕ) (re : Reaction State) (t : List ℕ) (log : Log) (r : Spot) (u : List ℕ) : Type 0 where
  pub is : (set : Settings) (k : List ℕ) (f : Stand) → Piece set w base p f e re → Leaves set w base p k t log f r u

abbrev pub over_of : Stop → ℕ → Spot
over_of a e = record { phase = is.Over a.result a.place; taken = e; log = a.log }

abbrev pub onward_of : Result Log Stop → Phase → ℕ → Spot
onward_of (Ok next) ph e = record { phase = ph; taken = e; log = next }
onward_of (Err a) ph e = over_of a e

-- the session is over: done takes what was read, a refusal nothing
abbrev pub ended_of : Outcome → ℕ → ℕ → Log → Spot
ended_of o q p log = record { phase = is.Over o q; taken = cond (eqb (result_number o) 0) p 0; log = log }

-- ---- lines, as the settings let them be read

-- one is there, and does not refuse
pub record Passes (set : Settings) (w : List ℕ) (p e : ℕ) : Type 0 where
  pub ends : Ends a_line w p e
  pub passes : (is_bare a_line (part w p e) && set.strict) ≡ false

pub record CleanPasses (set : Settings) (w : List ℕ) (p end e : ℕ) : Type 0 where
  pub line : Cleaned w p end e
  pub passes : (is_bare a_line (part w p e) && set.strict) ≡ false

-- the phase waits at p
abbrev pub waits_of : Phase → ℕ → Log → Spot
waits_of ph p log = record { phase = ph; taken = p; log = log }

-- a bare line is refused at the session's place `at`, and the window takes nothing
abbrev pub bare_of : ℕ → Log → Spot
bare_of at log = record { phase = is.Over BareLf at; taken = 0; log = log }

-- none is finished, or it refuses
pub data Halts (set : Settings) (w : List ℕ) (base p : ℕ) (ph : Phase) (log : Log) (r : Spot) : Type 0 where
  waits : (o : Outcome) → Stops a_line w p o → r ≡ waits_of ph p log → Halts set w base p ph log r
  refuses : (e : ℕ) → Ends a_line w p e → (is_bare a_line (part w p e) && set.strict) ≡ true → r ≡ bare_of (base + p) log → Halts set w base p ph log r

abbrev pub LineIs : Settings → List ℕ → ℕ → ℕ → Phase → Log → Result ℕ Spot → Type 0
LineIs set w base p ph log (Ok e) = Passes set w p e
LineIs set w base p ph log (Err r) = Halts set w base p ph log r

abbrev pub CleanLineIs : Settings → List ℕ → ℕ → ℕ → Phase → Log → Result CleanLine Spot → Type 0
CleanLineIs set w base p ph log (Ok l) = CleanPasses set w p l.clean l.end
CleanLineIs set w base p ph log (Err r) = Halts set w base p ph log r

abbrev pub PassIs : Settings → List ℕ → ℕ → ℕ → ℕ → Log → Result Unit Spot → Type 0
PassIs set w base p e log (Ok x) = (is_bare a_line (part w p e) && set.strict) ≡ false
PassIs set w base p e log (Err r) = ((is_bare a_line (part w p e) && set.strict) ≡ true) × (r ≡ bare_of (base + p) log)

-- two bytes, or the phase waits for them
pub record Unpaired (w : List ℕ) (p : ℕ) (ph : Phase) (log : Log) (r : Spot) : Type 0 where
  pub o : Outcome
  pub stops : Stops two w p o
  pub is : r ≡ waits_of ph p log

abbrev pub PairIs : List ℕ → ℕ → Phase → Log → Result Two Spot → Type 0
PairIs w p ph log (Ok x) = TwoIs w p (Ok x)
PairIs w p ph log (Err r) = Unpaired w p ph log r

-- a turn that may copy a boundary
pub record HeadIs (set : Settings) (w : List ℕ) (base p : ℕ) (k t : List ℕ) (log : Log) (ph : Phase) (r : Result Spot Spot) (k' u : List ℕ) : Type 0 where
  pub slots : Slots k'
  pub is : TurnIs set w base p k' t log (state_of k ph) r u

-- ---- a line that is read as a recipient: another follows, or the session is over
pub record RecipientIs (w : List ℕ) (base p end : ℕ) (t : List ℕ) (log : Log) (r : Result Log Stop) (u : List ℕ) : Type 0 where
  pub is : (e : ℕ) → Follows w base p e (by_recipient (base + p) (rcpt_to (part w p end))) t log (onward_of r is.Recipient e) u

-- ---- lines that are listed

-- a phase that lists each of its lines, clean, under a kind
pub record Lists (ph : Phase) (kind : ℕ) (so : phase.Phase) : Type 0 where
  pub stands : (k : List ℕ) → state_of k ph ≡ fresh (reads so)
  pub enters : (k : List ℕ) (to : ℕ) → Enters k (reads so) to ph
  pub wants : wants so ≡ a_line
  pub behind : ℕ → List ℕ → List Event
  pub is : (at : ℕ) (l : List ℕ) → (reacts so at l).events ≡ ev kind at (length (clean l)) Unsaid ∷ behind at l

-- it has listed a line that is l when clean, and ends at `to`: another phase follows, or another line
pub record Leads (kind : ℕ) (so : phase.Phase) (l : List ℕ) (to : ℕ) (r : Phase) : Type 0 where
  pub next : State
  pub enters : (k : List ℕ) → Enters k next to r
  pub is : (at : ℕ) (whole : List ℕ) → clean whole ≡ l → at + length whole ≡ to → reacts so at whole ≡ record { events = ev kind at (length l) Unsaid ∷ []; next = next }

pub record Stays (kind : ℕ) (so : phase.Phase) (l : List ℕ) : Type 0 where
  pub is : (at : ℕ) (whole : List ℕ) → clean whole ≡ l → reacts so at whole ≡ then (ev kind at (length l) Unsaid ∷ []) so

abbrev pub Said : ℕ → phase.Phase → List ℕ → ℕ → Option Phase → Type 0
Said kind so l to (Some r) = Leads kind so l to r
Said kind so l to None = Stays kind so l

-- a phase that lists its one line, clean, under a kind, and the one that follows
pub record Gives (ph : Phase) (kind : ℕ) (next : Phase) (so to : phase.Phase) : Type 0 where
  pub stands : (k : List ℕ) → state_of k ph ≡ fresh (reads so)
  pub fits : (at : ℕ) → Fits ph at
  pub wants : wants so ≡ a_line
  pub enters : (k : List ℕ) (at : ℕ) → Enters k (reads to) at next
  pub is : (at : ℕ) (l : List ℕ) → reacts so at l ≡ then (ev kind at (length (clean l)) Unsaid ∷ []) to

-- ---- headers

-- a line was heard, and its boundary kept if it supplied one
pub record Learns (w : List ℕ) (p e : ℕ) (x : Heard) (i : ℕ) (k : List ℕ) (r : Heard) (k' : List ℕ) : Type 0 where
  pub slots : Slots k'
  pub outer : outside k' i ≡ outside k i
  pub is : known_as k' i r ≡ clipped (scanned (known_as k i x) (part w p e))

-- what a header that has said so does behind its blank line, which ends at `to`
abbrev pub behind_of : Mail → Heard → ℕ → List ℕ → ℕ → Reaction State
behind_of m x i k to = begun m x.encoding (boundary_of k i x) (outside k i) to

-- a reaction under way at `to`: its events go to the table, and the phase is the one it leads to
pub record BegunIs (re : Reaction State) (to : ℕ) (k t : List ℕ) (log : Log) (r : Begun) (u : List ℕ) : Type 0 where
  pub notes : Notes t log re.events r.noted u
  pub enters : Enters k re.next to r.phase

-- a deeper multipart: no events
pub record DeeperIs (m : Mail) (k : List ℕ) (i to : ℕ) (r : Phase) : Type 0 where
  pub still : (e : Encoding) → (begun m e (Some (slot k i)) (outside k i) to).events ≡ []
  pub enters : (e : Encoding) → Enters k (begun m e (Some (slot k i)) (outside k i) to).next to r

-- ---- reads up to a delimiter for b, by lines: `f here` is such a read under way, `end to` what follows where it ends at `to`
pub record ByLines (set : Settings) (b : List ℕ) (f : Bool → Stand) (end : ℕ → Reaction State) : Type 0 where
  pub takes : (here : Bool) (s : List ℕ) → takes (f here) s ≡ piece_of (word (dash b)) here s
  pub does : (here : Bool) (at : ℕ) (l : List ℕ) → does set (f here) at l
      ≡ cond (is_mark (word (dash b)) here l) (entered (end (at + length l)) (at + length l)) (goes_on (f (ends_with crlf l)))

-- it ends at e
pub record Found (w : List ℕ) (p : ℕ) (b : List ℕ) (here : Bool) (e : ℕ) : Type 0 where
  pub on : p < e
  pub within : e ≤ length w
  pub is : (set : Settings) (f : Bool → Stand) (end : ℕ → Reaction State) → ByLines set b f end → (base : ℕ) → Piece set w base p (f here) e (end (base + e))

-- it waits at q, where no line is finished
pub record Waits (w : List ℕ) (p : ℕ) (b : List ℕ) (here : Bool) (q : ℕ) (there : Bool) : Type 0 where
  pub on : p ≤ q
  pub within : q ≤ length w
  pub is : (set : Settings) (f : Bool → Stand) (end : ℕ → Reaction State) → ByLines set b f end
      → (base : ℕ) → pieces set (f here) (base + p) (drop p w) ≡ stay (f there) (base + q) (drop q w)

abbrev pub SoughtIs : List ℕ → ℕ → List ℕ → Bool → Result ℕ Pause → Type 0
SoughtIs w p b here (Ok e) = Found w p b here e
SoughtIs w p b here (Err q) = Waits w p b here q.at q.may

-- one byte less than a literal's rest, if there is one and it is below n
abbrev pub short_of : ℕ → ℕ → Option ℕ
short_of zero n = None
short_of (suc x) n = cond (ltb (suc x) n) (Some x) None

-- ---- the loop over phases
pub record Ready (w : List ℕ) (base : ℕ) (k : List ℕ) (s : Spot) : Type 0 where
  pub within : s.taken ≤ length w
  pub slots : Slots k
  pub fits : Fits s.phase (base + s.taken)

pub record Turned (set : Settings) (w : List ℕ) (base : ℕ) (k t : List ℕ) (s : Spot) (k' : List ℕ) (r : Result Spot Spot) (u : List ℕ) : Type 0 where
  pub slots : Slots k'
  pub is : TurnIs set w base s.taken k' t s.log (state_of k s.phase) r u

pub record Went (set : Settings) (w : List ℕ) (base : ℕ) (k t : List ℕ) (s : Spot) (k' : List ℕ) (r : Spot) (u : List ℕ) : Type 0 where
  pub slots : Slots k'
  pub is : Goes set w base s.taken k' t s.log (state_of k s.phase) r u
