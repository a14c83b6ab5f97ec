-- POP3 status lines and IMAP commands: what each line does, as the walks meet it.
-- Assumes nothing.
use mathlib.Core.Path.{◌≡◌, refl, sym, ap, ◌∙◌}
use mathlib.Core.Bool.{true, false}
use mathlib.Core.List.{List, []}
use Prim.Native.Nat.{ℕ, ◌+◌, ◌≤◌, ◌<◌}
use native.Mathlib.Omega.{arith}
use lib.ListN.{length, drop}
use Rattle.std.specs.Prelude.{Ok, Err}
use Rattle.events.specs.Events.{server_line, client_line}
use Rattle.events.specs.declared.Log.{Log}
use Rattle.events.specs.declared.Outcome.TheVariants.{Done, OpenLiteral}
use Rattle.fields.specs.Common.{part, unknown}
use Rattle.fields.specs.Imap.{is_append, append_size, holds_colon}
use Rattle.fields.specs.Pop3.{stls_answer, retr_answer}
use Rattle.reading.proofs.Places.{by_test}
use Rattle.reading.specs.Bytes.{starts_with, same}
use Rattle.reading.specs.Reading.{a_line, crlf, clean}
use Rattle.reads.specs.Clauses.{Ends, Pair, Stopped}
use Rattle.reads.specs.declared.Stop.{Stop}
use Rattle.rules.specs.Imap.{on_command, on_offered, on_closing}
use Rattle.rules.specs.Phases.{State, reads, wants, then, status, command, offered, closing, head}
use Rattle.rules.specs.Pop3.{on_status}
use Rattle.rules.specs.Sessions.{reacts, session, settle}
use Rattle.sessions.specs.Walks.{Walk, reached, Walks, Lists, LinedTo, LinedStop, Moved, Farther, Turns}
use Rattle.rules.specs.declared.Mail.TheVariants.{Pop3, Imap}
use Rattle.sessions.specs.declared.walks.Lined.{Lined}
use Rattle.sessions.proofs.Lines.{line_on, line_stop}
use Rattle.sessions.proofs.MailTurns.{NotCrlf, behind}
use Rattle.sessions.proofs.Readings.{turn}
use Rattle.sessions.proofs.Steps as steps

pub farther : (s : List ℕ) (i j : ℕ) (r : Walk) → i < j → Moved s j r → Farther i r
farther s i j (Ok p) h m = omega arith
farther s i j (Err a) h m = tt

-- ---- POP3
status_lists : (at : ℕ) → Lists server_line at status
unfolding reacts on_status wants
status_lists at = record {
  wants = refl;
  behind = λ l. [];
  is = λ l. by_test (stls_answer (clean l)) (λ h. rw h) (λ h. by_test (retr_answer (clean l)) (λ g. rw (h, g)) (λ g. rw (h, g)));
}

module _ {s t : List ℕ} {log : Log} {at : ℕ} {u : List ℕ} where
  pub status_stop : {a : Stop} → LinedStop s t log at server_line a u → Turns s t log at status (Err a) u
  status_stop d = record { walks = line_stop (status_lists at) d; farther = tt }

  module _ {l : Lined} (d : LinedTo s t log at server_line l u) where
    pub status_tls : {a : Stop} → stls_answer (part s at l.clean) ≡ true → Stopped Done l.to.at l.to.log a → Turns s t log at status (Err a) u
    unfolding status_lists reacts on_status
    status_tls h w = record { walks = line_on (status_lists at) d (rw (← d.line.is, h, behind d.line.ends) (steps.stop w)); farther = tt }

    pub status_mail : {r : Walk} {v : List ℕ} → stls_answer (part s at l.clean) ≡ false → retr_answer (part s at l.clean) ≡ true
        → Walks s u l.to.log l.to.at (then [] (head Pop3 unknown [])) (λ p. reads status) r v → Turns s t log at status r v
    unfolding status_lists reacts on_status
    status_mail {r} h g w = record { walks = line_on (status_lists at) d (rw (← d.line.is, h, g) w); farther = farther s at l.to.at r d.line.ends.on w.moved }

    pub status_on : stls_answer (part s at l.clean) ≡ false → retr_answer (part s at l.clean) ≡ false → Turns s t log at status (Ok l.to) u
    unfolding status_lists reacts on_status
    status_on h g = record { walks = line_on (status_lists at) d (rw (← d.line.is, h, g) (steps.here l.to.at d.line.ends.within)); farther = d.line.ends.on }

-- ---- IMAP
command_lists : (at : ℕ) → Lists client_line at command
unfolding reacts on_command wants
command_lists at = record { wants = refl; behind = λ l. []; is = λ l. by_test (is_append (clean l)) (λ h. rw h) (λ h. rw h) }

module _ {s t : List ℕ} {log : Log} {at : ℕ} {u : List ℕ} where
  pub command_stop : {a : Stop} → LinedStop s t log at client_line a u → Turns s t log at command (Err a) u
  command_stop d = record { walks = line_stop (command_lists at) d; farther = tt }

  module _ {l : Lined} (d : LinedTo s t log at client_line l u) where
    pub command_append : {r : Walk} {v : List ℕ} {n : ℕ} → is_append (part s at l.clean) ≡ true → n ≡ append_size (part s at l.clean)
        → Walks s u l.to.log l.to.at (then [] (offered n)) (λ p. reads command) r v → Turns s t log at command r v
    unfolding command_lists reacts on_command
    command_append {r} h g w = record { walks = line_on (command_lists at) d (rw (← d.line.is, h, ← g) w); farther = farther s at l.to.at r d.line.ends.on w.moved }

    pub command_on : is_append (part s at l.clean) ≡ false → Turns s t log at command (Ok l.to) u
    unfolding command_lists reacts on_command
    command_on h = record { walks = line_on (command_lists at) d (rw (← d.line.is, h) (steps.here l.to.at d.line.ends.within)); farther = d.line.ends.on }

-- a line that is only peeked at: what holds a colon is a header's, any other a command
module _ {s : List ℕ} {at e : ℕ} (d : Ends a_line s at e) (size : ℕ) where
  offered_is : holds_colon (part s at e) ≡ true → session (reads (offered size)) at (drop at s) ≡ session (reads (head (Imap size at) unknown [])) at (drop at s)
  unfolding wants reacts on_offered
  offered_is h = turn (offered size) s at e d ∙ rw h (sym (turn (head (Imap size at) unknown []) s at e d))

  offered_not : holds_colon (part s at e) ≡ false → session (reads (offered size)) at (drop at s) ≡ session (reads command) at (drop at s)
  unfolding wants reacts on_offered
  offered_not h = turn (offered size) s at e d ∙ rw h (sym (turn command s at e d))

  module _ {t : List ℕ} {log : Log} {to : ℕ → State} where
    pub offered_mail : {r : Walk} {u : List ℕ} → holds_colon (part s at e) ≡ true → Walks s t log at (then [] (head (Imap size at) unknown [])) to r u
        → Walks s t log at (then [] (offered size)) to r u
    offered_mail h w = record { moved = w.moved; is = w.is ∙ ap (settle t log) (sym (offered_is h)) }

  pub offered_none : {t : List ℕ} {log : Log} → holds_colon (part s at e) ≡ false → at ≤ length s
      → Walks s t log at (then [] (offered size)) (λ p. reads command) (Ok (reached at log)) t
  offered_none {t} {log} h g = record { moved = (omega arith, g); is = ap (settle t log) (sym (offered_not h)) }

-- ---- the two bytes behind a literal: CRLF, anything else is refused
module _ {s t : List ℕ} {log : Log} {at : ℕ} where
  pub closing_crlf : Pair s at crlf → Walks s t log at (then [] closing) (λ p. reads command) (Ok (reached (at + 2) log)) t
  unfolding reacts on_closing same starts_with wants
  closing_crlf p = steps.read closing p.ends (rw p.is (steps.here (at + 2) p.ends.within))

  pub closing_other : {to : ℕ → State} {a : Stop} → NotCrlf s at → Stopped OpenLiteral at log a → Walks s t log at (then [] closing) to (Err a) t
  unfolding reacts on_closing wants
  closing_other p w = steps.read closing p.ends (rw p.is (steps.stop w))
