-- Sessions that may be cut anywhere: request W2. A session stands where a read of document 01 begins, or where a part of a preamble, a content or a sized body
-- is taken; all else is document 01's, strict where that was chosen (W6). Assumes nothing.
use Rattle.std.specs.Prelude.{Bool, true, cond, List, [], ℕ, ◌+◌, ◌-◌, eqb, ltb, length, take, Option, None, Some}
use Rattle.events.specs.declared.Encoding.{Encoding}
use Rattle.events.specs.declared.Outcome.{Outcome}
use Rattle.events.specs.declared.Outcome.TheVariants.{Incomplete, LongBoundary}
use Rattle.fields.specs.Common.{Known}
use Rattle.reading.specs.Bytes.{ends_with}
use Rattle.reading.specs.Reading.{crlf, dash, Need, bytes, nothing, Got, fetch}
use Rattle.rules.specs.Machine.{Reaction, Ran, run}
use Rattle.rules.specs.Mail.{on_literal, on_preamble, on_content}
use Rattle.rules.specs.Phases.{Phase, State, reads, ends, need}
use Rattle.rules.specs.Phases as phase
use Rattle.rules.specs.Sessions.{fetches, result_of, place_of}
use Rattle.rules.specs.Strict.{Crlf, lax, react_with}
use Rattle.rules.specs.declared.Mail.{Mail}
use Rattle.rules.specs.declared.Settings.{Settings}
use Rattle.windows.specs.Pieces.{word, piece_of, is_mark}

-- the longest boundary of which a copy is kept
abbrev pub longest : ℕ
longest = 70

-- a read begins here; or one that began at `from` is under way. `here` says whether a delimiter may stand here, `left` that left + 1 bytes are wanted
pub data Stand : Type 0 where
  fresh : State → Stand
  in_preamble : Mail → List ℕ → List (List ℕ) → (from : ℕ) (here : Bool) → Stand
  in_content : Mail → Encoding → List ℕ → List (List ℕ) → (from : ℕ) (here : Bool) → Stand
  in_literal : Encoding → (from left : ℕ) → Stand

-- ---- a phase of document 01 begins. Of a header's boundary one byte more is copied than may be: that it is too long can be told then
unfoldable pub copied : Option (List ℕ) → Option (List ℕ)
copied None = None
copied (Some b) = Some (take (longest + 1) b)

unfoldable pub clipped : Known → Known
clipped k = record { encoding = k.encoding; type_seen = k.type_seen; boundary = copied k.boundary }

-- 12 where a boundary exceeds 70 bytes, after 9 and with 9's place
unfoldable pub opens : Mail → List ℕ → List (List ℕ) → ℕ → Stand
opens m b os at = cond (ltb longest (length b)) (fresh (ends LongBoundary at)) (in_preamble m b os at true)

unfoldable pub enters : Phase → ℕ → Stand
enters phase.hello at = fresh (reads phase.hello)
enters phase.second at = fresh (reads phase.second)
enters phase.user at = fresh (reads phase.user)
enters phase.password at = fresh (reads phase.password)
enters phase.sender at = fresh (reads phase.sender)
enters phase.seeking at = fresh (reads phase.seeking)
enters phase.recipient at = fresh (reads phase.recipient)
enters phase.reply at = fresh (reads phase.reply)
enters phase.status at = fresh (reads phase.status)
enters phase.command at = fresh (reads phase.command)
enters (phase.offered size) at = fresh (reads (phase.offered size))
enters phase.closing at = fresh (reads phase.closing)
enters (phase.head m k os) at = fresh (reads (phase.head m (clipped k) os))
enters (phase.text m e) at = fresh (reads (phase.text m e))
enters (phase.literal e n) at = in_literal e at n
enters (phase.preamble m b os) at = opens m b os at
enters (phase.opened m b os) at = fresh (reads (phase.opened m b os))
enters (phase.content m e b os) at = in_content m e b os at true
enters (phase.between m b os) at = fresh (reads (phase.between m b os))
enters (phase.skipping m b os) at = fresh (reads (phase.skipping m b os))
enters (phase.resting m b os n) at = fresh (reads (phase.resting m b os n))

unfoldable pub enter : State → ℕ → Stand
enter (reads ph) at = enters ph at
enter (ends r p) at = fresh (ends r p)

abbrev pub entered : Reaction State → ℕ → Reaction Stand
entered re to = record { events = re.events; next = enter re.next to }

-- ---- what is taken at once: the whole read; of a preamble or a content a finished line, or the delimiter; of a sized body a byte
unfoldable pub takes : Stand → List ℕ → Got
takes (fresh st) s = fetches st s
takes (in_preamble m b os from here) s = piece_of (word (dash b)) here s
takes (in_content m e b os from here) s = piece_of (word (dash b)) here s
takes (in_literal e from left) s = fetch (bytes 0) s

-- ---- what follows: behind the last piece what document 01 does with all that was read since `from`
abbrev pub goes_on : Stand → Reaction Stand
goes_on f = record { events = []; next = f }

unfoldable pub does : Settings → Stand → ℕ → List ℕ → Reaction Stand
does set (fresh st) at l = entered (react_with set st at l) (at + length l)
does set (in_preamble m b os from here) at l =
    cond (is_mark (word (dash b)) here l)
    (entered (on_preamble m b os) (at + length l))
    (goes_on (in_preamble m b os from (ends_with crlf l)))
does set (in_content m e b os from here) at l =
    cond (is_mark (word (dash b)) here l)
    (entered (on_content m e b os from (at + length l - from)) (at + length l))
    (goes_on (in_content m e b os from (ends_with crlf l)))
does set (in_literal e from left) at l =
    cond (eqb left 0)
    (entered (on_literal e from (at + length l - from)) (at + length l))
    (goes_on (in_literal e from (left - 1)))

abbrev pub pieces : Settings → Stand → ℕ → List ℕ → Ran Stand
pieces set f at s = run Stand takes (does set) f at s

-- ---- a read that waits is incomplete, where it began
unfoldable pub stand_result : Stand → Outcome
stand_result (fresh st) = result_of st
stand_result (in_preamble m b os from here) = Incomplete
stand_result (in_content m e b os from here) = Incomplete
stand_result (in_literal e from left) = Incomplete

unfoldable pub stand_place : Stand → ℕ → ℕ
stand_place (fresh st) at = place_of st at
stand_place (in_preamble m b os from here) at = from
stand_place (in_content m e b os from here) at = from
stand_place (in_literal e from left) at = from

-- ---- a session all of whose lines end in CRLF. A read under way is no line
unfoldable pub asks : Stand → Need
asks (fresh st) = need st
asks (in_preamble m b os from here) = nothing
asks (in_content m e b os from here) = nothing
asks (in_literal e from left) = nothing

abbrev pub InCrlf : Phase → List ℕ → Type 0
InCrlf start s = Crlf asks (does lax) takes (enters start 0) 0 s
