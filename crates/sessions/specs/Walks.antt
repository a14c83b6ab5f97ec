-- What the answers of the walks say: what is left to do. The entries' contracts use none of it.
-- Assumes nothing.
use Rattle.std.specs.Prelude.{◌≡◌, None, List, [], ◌∷◌, ℕ, ◌+◌, ◌≤◌, ◌<◌, length, drop, Result, Ok, Err}
use Rattle.events.specs.Events.{ev}
use Rattle.events.specs.Table.{Final}
use Rattle.events.specs.declared.Encoding.{Encoding}
use Rattle.events.specs.declared.Encoding.TheVariants.{Unsaid}
use Rattle.events.specs.declared.Event.{Event}
use Rattle.events.specs.declared.Log.{Log}
use Rattle.events.specs.declared.Outcome.TheVariants.{Incomplete}
use Rattle.fields.specs.Common.{part, unknown, bdry_bytes, bytes_of, Inside}
use Rattle.reading.specs.Reading.{Need, a_line, two, crlf, clean, reach}
use Rattle.reading.specs.declared.Span.{Span}
use Rattle.reads.specs.Clauses.{Ends, Cleaned, Pair, NoPair, Stopped, Begins, final_at}
use Rattle.reads.specs.declared.CleanLine.{CleanLine}
use Rattle.reads.specs.declared.Stop.{Stop}
use Rattle.reads.specs.declared.Two.{Two}
use Rattle.reads.specs.declared.Two.TheVariants as pair
use Rattle.rules.specs.Machine.{Reaction, Ran, before}
use Rattle.rules.specs.Mail.{hyphens, starts, begun, skip, outermost, popped}
use Rattle.rules.specs.Phases.{Phase, State, reads, head, preamble, content, between, then, wants}
use Rattle.rules.specs.Sessions.{reacts, session, settle}
use Rattle.rules.specs.declared.Mail.{Mail}
use Rattle.sessions.specs.declared.header.Headed.{Headed}
use Rattle.sessions.specs.declared.multi.Level.{Level}
use Rattle.sessions.specs.declared.multi.Parted.{Parted}
use Rattle.sessions.specs.declared.multi.Parted.TheVariants as parted
use Rattle.sessions.specs.declared.walks.Lined.{Lined}
use Rattle.sessions.specs.declared.walks.Reached.{Reached}

-- ---- walks

abbrev pub goes : State → Reaction State
goes st = record { events = []; next = st }

-- a reaction under way, the session being at a
abbrev pub under : Reaction State → ℕ → List ℕ → Ran State
under re a l = before re.events (session re.next a l)

-- where a walk has come to, and what is listed by then; or the session's end
abbrev pub Walk : Type 0
Walk = Result Reached Stop

abbrev pub reached : ℕ → Log → Reached
reached p log = record { at = p; log = log }

abbrev pub walk_left : List ℕ → List ℕ → (ℕ → State) → Walk → Final
walk_left s u to (Ok p) = settle u p.log (session (to p.at) p.at (drop p.at s))
walk_left s u to (Err a) = final_at u a

abbrev pub Moved : List ℕ → ℕ → Walk → Type 0
Moved s at (Ok p) = (at ≤ p.at) × (p.at ≤ length s)
Moved s at (Err a) = Unit {0}

-- from a reaction under way at `at` to a state that hangs on the place: what is left to do stays the same
pub record Walks (s t : List ℕ) (log : Log) (at : ℕ) (from : Reaction State) (to : ℕ → State) (r : Walk) (u : List ℕ) : Type 0 where
  pub moved : Moved s at r
  pub is : walk_left s u to r ≡ settle t log (under from at (drop at s))

abbrev pub Farther : ℕ → Walk → Type 0
Farther at (Ok p) = at < p.at
Farther at (Err a) = Unit {0}

-- a walk from a phase to the same phase, by a byte at least
pub record Turns (s t : List ℕ) (log : Log) (at : ℕ) (ph : Phase) (r : Walk) (u : List ℕ) : Type 0 where
  pub walks : Walks s t log at (goes (reads ph)) (λ p. reads ph) r u
  pub farther : Farther at r

-- ---- reads, which stop the session where they began

-- a read at `at` needs bytes beyond the end
pub record Short (nd : Need) (s : List ℕ) (log : Log) (at : ℕ) (a : Stop) : Type 0 where
  pub short : reach nd (drop at s) ≡ None
  pub is : Stopped Incomplete at log a

abbrev pub ReadIs : Need → List ℕ → Log → ℕ → Result ℕ Stop → Type 0
ReadIs nd s log at (Ok e) = Ends nd s at e
ReadIs nd s log at (Err a) = Short nd s log at a

abbrev pub CleanIs : List ℕ → Log → ℕ → Result CleanLine Stop → Type 0
CleanIs s log at (Ok l) = Cleaned s at l.clean l.end
CleanIs s log at (Err a) = Short a_line s log at a

abbrev pub TwoIs : List ℕ → Log → ℕ → Result Two Stop → Type 0
TwoIs s log at (Ok pair.Crlf) = Pair s at crlf
TwoIs s log at (Ok pair.Hyphens) = Pair s at hyphens
TwoIs s log at (Ok pair.Other) = NoPair s at
TwoIs s log at (Err a) = Short two s log at a

-- a phase that lists each of its lines, clean, under a kind
pub record Lists (kind at : ℕ) (ph : Phase) : Type 0 where
  pub wants : wants ph ≡ a_line
  pub behind : List ℕ → List Event
  pub is : (l : List ℕ) → (reacts ph at l).events ≡ ev kind at (length (clean l)) Unsaid ∷ behind l

-- what the phase does with the line l, its event apart
abbrev pub apart : {kind at : ℕ} {ph : Phase} → Lists kind at ph → List ℕ → Reaction State
apart {kind} {at} {ph} h l = record { events = h.behind l; next = (reacts ph at l).next }

pub record LinedTo (s t : List ℕ) (log : Log) (at kind : ℕ) (l : Lined) (u : List ℕ) : Type 0 where
  pub line : Cleaned s at l.clean l.to.at
  pub is : (ph : Phase) (h : Lists kind at ph)
      → settle u l.to.log (under (apart h (part s at l.to.at)) l.to.at (drop l.to.at s)) ≡ settle t log (session (reads ph) at (drop at s))

pub record LinedStop (s t : List ℕ) (log : Log) (at kind : ℕ) (a : Stop) (u : List ℕ) : Type 0 where
  pub is : (ph : Phase) → Lists kind at ph → final_at u a ≡ settle t log (session (reads ph) at (drop at s))

abbrev pub LinedIs : List ℕ → List ℕ → Log → ℕ → ℕ → Result Lined Stop → List ℕ → Type 0
LinedIs s t log at kind (Ok l) u = LinedTo s t log at kind l u
LinedIs s t log at kind (Err a) u = LinedStop s t log at kind a u

-- ---- headers

abbrev pub headed_left : List ℕ → List ℕ → Mail → List (List ℕ) → Result Headed Stop → Final
headed_left s u m os (Ok h) = settle u h.to.log (under (begun m h.known.encoding (bdry_bytes s h.known.boundary) os h.to.at) h.to.at (drop h.to.at s))
headed_left s u m os (Err a) = final_at u a

abbrev pub MovedHead : List ℕ → ℕ → Result Headed Stop → Type 0
MovedHead s at (Ok h) = (at < h.to.at) × (h.to.at ≤ length s) × Inside s h.known.boundary
MovedHead s at (Err a) = Unit {0}

pub record Headers (s t : List ℕ) (log : Log) (at : ℕ) (r : Result Headed Stop) (u : List ℕ) : Type 0 where
  pub moved : MovedHead s at r
  pub is : (m : Mail) (os : List (List ℕ)) → headed_left s u m os r ≡ settle t log (session (reads (head m unknown os)) at (drop at s))

-- ---- multiparts

abbrev pub Lies : List ℕ → Span → Type 0
Lies s b = b.at + b.len ≤ length s

-- what a walk at `at` needs of its level
pub record Stands (s : List ℕ) (at : ℕ) (l : Level) : Type 0 where
  pub within : at ≤ length s
  pub begins : Begins l.mail at
  pub bdry : Lies s l.bdry
  pub outer : Lies s l.outer

-- the level's boundary is open inside the boundaries os, and the outermost of them is as the level says
pub record Within (s : List ℕ) (l : Level) (os : List (List ℕ)) : Type 0 where
  pub deep : l.left + length os ≡ 7
  pub outermost : outermost (bytes_of s l.bdry) os ≡ bytes_of s l.outer

abbrev pub parted_left : List ℕ → List ℕ → Mail → List ℕ → List (List ℕ) → Result Parted Stop → Final
parted_left s u m b os (Ok (parted.Next p)) = settle u p.log (session (reads (head m unknown (b ∷ os))) p.at (drop p.at s))
parted_left s u m b os (Ok (parted.Closed p)) = settle u p.log (session (skip m b os p.at) p.at (drop p.at s))
parted_left s u m b os (Err a) = final_at u a

abbrev pub MovedPart : List ℕ → ℕ → Result Parted Stop → Type 0
MovedPart s at (Ok (parted.Next p)) = (at < p.at) × (p.at ≤ length s)
MovedPart s at (Ok (parted.Closed p)) = (at < p.at) × (p.at ≤ length s)
MovedPart s at (Err a) = Unit {0}

-- from a reaction under way inside the open boundaries os, where they are such as is asked
pub record Parts (s t : List ℕ) (log : Log) (at : ℕ) (m : Mail) (b : List ℕ)
    (from : List (List ℕ) → Reaction State) (Asked : List (List ℕ) → Type 0) (r : Result Parted Stop) (u : List ℕ) : Type 0 where
  pub moved : MovedPart s at r
  pub is : (os : List (List ℕ)) → Asked os → parted_left s u m b os r ≡ settle t log (under (from os) at (drop at s))

pub record Inner (s t : List ℕ) (log : Log) (at : ℕ)
    (from : List (List ℕ) → Reaction State) (to : List (List ℕ) → ℕ → State) (Asked : List (List ℕ) → Type 0) (r : Walk) (u : List ℕ) : Type 0 where
  pub moved : Moved s at r
  pub is : (os : List (List ℕ)) → Asked os → walk_left s u (to os) r ≡ settle t log (under (from os) at (drop at s))

-- ---- what each walk of a multipart answers

abbrev pub MultiBodyIs : List ℕ → List ℕ → Log → ℕ → Level → Walk → List ℕ → Type 0
MultiBodyIs s t log at l r u =
    Inner s t log at (λ os. then [] (preamble l.mail (bytes_of s l.bdry) os)) (popped l.mail) (Within s l) r u

abbrev pub PartIs : List ℕ → List ℕ → Log → ℕ → Level → Result Parted Stop → List ℕ → Type 0
PartIs s t log at l r u =
    Parts s t log at l.mail (bytes_of s l.bdry) (λ os. then [] (head l.mail unknown (bytes_of s l.bdry ∷ os))) (Within s l) r u

abbrev pub PreambleIs : List ℕ → Log → ℕ → Span → Walk → Type 0
PreambleIs s log at b r =
    (m : Mail) (os : List (List ℕ)) (t : List ℕ)
    → Walks s t log at (then [] (preamble m (bytes_of s b) os)) (λ p. reads (head m unknown (bytes_of s b ∷ os))) r t

abbrev pub ContentIs : List ℕ → List ℕ → Log → ℕ → Span → Encoding → Result Parted Stop → List ℕ → Type 0
ContentIs s t log at b e r u =
    (m : Mail) → Parts s t log at m (bytes_of s b) (λ os. starts at (content m e (bytes_of s b) os)) (λ os. Unit {0}) r u

abbrev pub MimeBodyIs : List ℕ → List ℕ → Log → ℕ → Span → Encoding → Walk → List ℕ → Type 0
MimeBodyIs s t log at b e r u =
    (m : Mail) (os : List (List ℕ)) → Walks s t log at (starts at (content m e (bytes_of s b) os)) (λ p. reads (between m (bytes_of s b) os)) r u

-- behind a close, whatever level was closed
abbrev pub EpilogueIs : List ℕ → Log → ℕ → Span → Mail → Walk → Type 0
EpilogueIs s log at outer m r =
    (b : List ℕ) (os : List (List ℕ)) → outermost b os ≡ bytes_of s outer → (t : List ℕ) → Walks s t log at (goes (skip m b os at)) (popped m os) r t
