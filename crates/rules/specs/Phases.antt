-- The phases of the sessions, one for each read of the Rust, and what each reads.
-- Assumes nothing.
use Rattle.std.specs.Prelude.{List, ◌∷◌, ℕ}
use Rattle.events.specs.declared.Encoding.{Encoding}
use Rattle.events.specs.declared.Event.{Event}
use Rattle.events.specs.declared.Outcome.{Outcome}
use Rattle.fields.specs.Common.{Known}
use Rattle.reading.specs.Reading.{Need, a_line, bytes, two, delimiter, nothing}
use Rattle.rules.specs.Machine.{Reaction}
use Rattle.rules.specs.declared.Mail.{Mail}

-- a mail is an SMTP client's, a POP3 server's, or an IMAP client's with the literal's size and where the mail's header began;
-- open boundaries are the innermost, and those outside it, the outermost last
pub data Phase : Type 0 where
  -- smtp.rs, c2s_parser_inner
  hello : Phase
  second : Phase
  user : Phase
  password : Phase
  sender : Phase
  seeking : Phase  -- read_to_from
  recipient : Phase  -- multi_rcpt_to
  -- smtp.rs, s2c_parser_inner
  reply : Phase
  -- pop3.rs, s2c_parser_inner
  status : Phase
  -- imap.rs, c2s_parser_inner
  command : Phase
  offered : (size : ℕ) → Phase  -- append_ok: the line is peeked at
  closing : Phase  -- the two bytes behind a literal
  -- common.rs, and imap.rs where it has its own
  head : Mail → Known → List (List ℕ) → Phase  -- header
  text : Mail → Encoding → Phase  -- body
  literal : Encoding → ℕ → Phase  -- size_body; `literal e n`: n + 1 bytes
  preamble : Mail → List ℕ → List (List ℕ) → Phase  -- preamble, its delimiter
  opened : Mail → List ℕ → List (List ℕ) → Phase  -- preamble, the two bytes behind
  content : Mail → Encoding → List ℕ → List (List ℕ) → Phase  -- mime_body
  between : Mail → List ℕ → List (List ℕ) → Phase  -- multi_body, the two bytes behind a content
  skipping : Mail → List ℕ → List (List ℕ) → Phase  -- epilogue
  resting : Mail → List ℕ → List (List ℕ) → ℕ → Phase  -- imap.rs, epilogue: the literal's rest, n + 1 bytes

-- a session reads on, or has ended with a result and a place
pub data State : Type 0 where
  reads : Phase → State
  ends : (result : Outcome) (place : ℕ) → State

-- what each phase reads
unfoldable pub wants : Phase → Need
wants hello = a_line
wants second = a_line
wants user = a_line
wants password = a_line
wants sender = a_line
wants seeking = a_line
wants recipient = a_line
wants reply = a_line
wants status = a_line
wants command = a_line
wants (offered size) = a_line
wants closing = two
wants (head m k os) = a_line
wants (text m e) = a_line
wants (literal e n) = bytes n
wants (preamble m b os) = delimiter b
wants (opened m b os) = two
wants (content m e b os) = delimiter b
wants (between m b os) = two
wants (skipping m b os) = a_line
wants (resting m b os n) = bytes n

unfoldable pub need : State → Need
need (reads ph) = wants ph
need (ends r p) = nothing

-- events, then the next phase; or the end
abbrev pub then : List Event → Phase → Reaction State
then es ph = record { events = es; next = reads ph }

abbrev pub stop : List Event → Outcome → ℕ → Reaction State
stop es r p = record { events = es; next = ends r p }

-- an event before a reaction
abbrev pub ahead : Event → Reaction State → Reaction State
ahead e re = record { events = e ∷ re.events; next = re.next }
