-- The turns of the SMTP phases: what each does with its line, as the code takes it.
-- Assumes nothing.
use mathlib.Core.Path.{◌≡◌, refl}
use mathlib.Core.Bool.{true, false}
use mathlib.Core.List.{List, [], ◌∷◌}
use Prim.Native.Nat.{ℕ, ◌+◌, ◌-◌, ◌≤◌}
use native.Mathlib.Omega.{arith}
use lib.ListN.{length, take}
use Rattle.events.specs.Events.{ev}
use Rattle.events.specs.Events as event
use Rattle.events.specs.declared.Encoding.TheVariants.{Unsaid}
use Rattle.events.specs.declared.Log.{Log}
use Rattle.events.specs.declared.Outcome.TheVariants.{Done, NoHello, StartTls, NoRecipient}
use Rattle.fields.specs.Common.{part, unknown}
use Rattle.fields.specs.Smtp.{starts_with_helo, is_mail_from, second_line, is_data, rcpt_to}
use Rattle.std.specs.Prelude.{Option, Some, None, Ok, Err}
use Rattle.reading.specs.declared.Span.{Span}
use Rattle.fields.specs.declared.smtp.Second.TheVariants as is
use Rattle.reading.proofs.Places.{by_test}
use Rattle.reading.specs.Bytes.{starts_with}
use Rattle.reading.specs.Reading.{a_line, clean}
use Rattle.reading.specs.Text.{text}
use Rattle.reads.specs.Clauses.{Ends, Cleaned, Stopped, Full, Written}
use Rattle.reads.specs.declared.Stop.{Stop}
use Rattle.rules.specs.Phases.{State, reads, hello, second, user, password, sender, seeking, recipient, reply, head, then, wants}
use Rattle.rules.specs.Sessions.{reacts}
use Rattle.rules.specs.Smtp.{on_hello, given, tried, by_second, on_second, on_user, on_password, on_sender, on_seeking, by_recipient, on_recipient, on_reply}
use Rattle.sessions.specs.Walks.{Walk, reached, Walks, Turns, Lists, LinedTo, LinedStop}
use Rattle.sessions.specs.declared.walks.Lined.{Lined}
use Rattle.rules.specs.declared.Mail.TheVariants.{Smtp}
use Rattle.sessions.proofs.Lines.{line_on, line_stop}
use Rattle.sessions.proofs.MailTurns.{behind}
use Rattle.sessions.proofs.Steps.{here, stop, read, add, add_stop}

-- ---- the first line
module _ {s t : List ℕ} {log : Log} {to : ℕ → State} where
  pub hello_said : {e : ℕ} {r : Walk} {u : List ℕ} → Ends a_line s 0 e → starts_with_helo (take e s) ≡ true → Walks s t log e (then [] second) to r u
      → Walks s t log 0 (then [] hello) to r u
  unfolding reacts on_hello wants
  hello_said {e} d h w = let k : e - 0 ≡ e = omega arith in read hello d (rw (k, h) w)

  pub hello_not : {e : ℕ} {a : Stop} → Ends a_line s 0 e → starts_with_helo (take e s) ≡ false → Stopped NoHello 0 log a → Walks s t log 0 (then [] hello) to (Err a) t
  unfolding reacts on_hello wants
  hello_not {e} d h w = let k : e - 0 ≡ e = omega arith in read hello d (rw (k, h) (stop w))

-- ---- a line from `at` up to e, whose clean part ends at `end`
module _ {s : List ℕ} {at end e : ℕ} (d : Cleaned s at end e) {t : List ℕ} {log : Log} {to : ℕ → State} where
  pub second_tls : {a : Stop} → second_line (part s at end) ≡ is.StartTls → Stopped StartTls at log a → Walks s t log at (then [] second) to (Err a) t
  unfolding reacts on_second by_second wants
  second_tls h w = read second d.ends (rw (← d.is, h) (stop w))

  module _ {r : Walk} {u : List ℕ} where
    pub second_login : second_line (part s at end) ≡ is.AuthLogin → Walks s t log e (then [] user) to r u → Walks s t log at (then [] second) to r u
    unfolding reacts on_second by_second wants
    second_login h w = read second d.ends (rw (← d.is, h) w)

    pub second_from : second_line (part s at end) ≡ is.MailFrom → Walks s t log e (tried at (part s at end)) to r u → Walks s t log at (then [] second) to r u
    unfolding reacts on_second by_second wants
    second_from h w = read second d.ends (rw (← d.is, h) w)

    pub second_other : second_line (part s at end) ≡ is.Other → Walks s t log e (then [] seeking) to r u → Walks s t log at (then [] second) to r u
    unfolding reacts on_second by_second wants
    second_other h w = read second d.ends (rw (← d.is, h) w)

    pub sender_tried : Walks s t log e (tried at (part s at end)) to r u → Walks s t log at (then [] sender) to r u
    unfolding reacts on_sender wants
    sender_tried w = read sender d.ends (rw (← d.is) w)

    pub seeking_found : is_mail_from (part s at end) ≡ true → Walks s t log e (tried at (part s at end)) to r u → Walks s t log at (then [] seeking) to r u
    unfolding reacts on_seeking wants
    seeking_found h w = read seeking d.ends (rw (← d.is, h) w)

    pub seeking_on : is_mail_from (part s at end) ≡ false → Walks s t log e (then [] seeking) to r u → Walks s t log at (then [] seeking) to r u
    unfolding reacts on_seeking wants
    seeking_on h w = read seeking d.ends (rw (← d.is, h) w)

    pub recipient_data : is_data (part s at end) ≡ true → Walks s t log e (then [] (head Smtp unknown [])) to r u → Walks s t log at (then [] recipient) to r u
    unfolding reacts on_recipient wants
    recipient_data h w = read recipient d.ends (rw (← d.is, h) w)

    pub recipient_line : is_data (part s at end) ≡ false → Walks s t log e (by_recipient at (rcpt_to (part s at end))) to r u → Walks s t log at (then [] recipient) to r u
    unfolding reacts on_recipient wants
    recipient_line h w = read recipient d.ends (rw (← d.is, h) w)

-- ---- the address that a line at `at` holds: its event, and reading goes on at e
module _ {s t : List ℕ} {log : Log} (at : ℕ) {e : ℕ} {x : Option Span} where
  -- tried as sender: without one, nothing is listed
  pub tried_none : x ≡ None → e ≤ length s → Walks s t log e (then (given at x) recipient) (λ p. reads recipient) (Ok (reached e log)) t
  unfolding given
  tried_none h g = rw h (here e g)

  -- a recipient: without one, the session is refused
  pub recipient_none : {to : ℕ → State} {a : Stop} → x ≡ None → Stopped NoRecipient at log a → Walks s t log e (by_recipient at x) to (Err a) t
  unfolding by_recipient
  recipient_none h w = rw h (stop w)

  -- one that is listed under either, and one that finds no slot
  module _ {a : Span} {u : List ℕ} (h : x ≡ Some a) where
    pub tried_some : {next : Log} → Written t log (ev event.sender (at + a.at) a.len Unsaid ∷ []) next u → e ≤ length s
        → Walks s t log e (then (given at x) recipient) (λ p. reads recipient) (Ok (reached e next)) u
    unfolding given
    tried_some w g = rw h (add w g)

    pub tried_full : {b : Stop} → Full t log (ev event.sender (at + a.at) a.len Unsaid ∷ []) b u
        → Walks s t log e (then (given at x) recipient) (λ p. reads recipient) (Err b) u
    unfolding given
    tried_full w = rw h (add_stop (reads recipient) w)

    pub recipient_some : {next : Log} → Written t log (ev event.recipient (at + a.at) a.len Unsaid ∷ []) next u → e ≤ length s
        → Walks s t log e (by_recipient at x) (λ p. reads recipient) (Ok (reached e next)) u
    unfolding by_recipient
    recipient_some w g = rw h (add w g)

    pub recipient_full : {b : Stop} → Full t log (ev event.recipient (at + a.at) a.len Unsaid ∷ []) b u
        → Walks s t log e (by_recipient at x) (λ p. reads recipient) (Err b) u
    unfolding by_recipient
    recipient_full w = rw h (add_stop (reads recipient) w)

-- ---- lines listed
user_lists : (at : ℕ) → Lists event.user at user
unfolding reacts on_user wants
user_lists at = record { wants = refl; behind = λ l. []; is = λ l. refl }

password_lists : (at : ℕ) → Lists event.password at password
unfolding reacts on_password wants
password_lists at = record { wants = refl; behind = λ l. []; is = λ l. refl }

reply_lists : (at : ℕ) → Lists event.server_line at reply
unfolding reacts on_reply wants
reply_lists at = record { wants = refl; behind = λ l. []; is = λ l. by_test (starts_with (text "221") (clean l)) (λ h. rw h) (λ h. rw h) }

module _ {s t : List ℕ} {log : Log} {at : ℕ} {to : ℕ → State} {u : List ℕ} where
  pub user_stop : {a : Stop} → LinedStop s t log at event.user a u → Walks s t log at (then [] user) to (Err a) u
  user_stop = line_stop (user_lists at)

  pub password_stop : {a : Stop} → LinedStop s t log at event.password a u → Walks s t log at (then [] password) to (Err a) u
  password_stop = line_stop (password_lists at)

  module _ {l : Lined} where
    pub user_on : {r : Walk} {v : List ℕ} → LinedTo s t log at event.user l u → Walks s u l.to.log l.to.at (then [] password) to r v → Walks s t log at (then [] user) to r v
    unfolding user_lists reacts on_user
    user_on d w = line_on (user_lists at) d w

    pub password_on : {r : Walk} {v : List ℕ} → LinedTo s t log at event.password l u → Walks s u l.to.log l.to.at (then [] sender) to r v
        → Walks s t log at (then [] password) to r v
    unfolding password_lists reacts on_password
    password_on d w = line_on (password_lists at) d w

module _ {s t : List ℕ} {log : Log} {at : ℕ} {u : List ℕ} where
  pub reply_stop : {a : Stop} → LinedStop s t log at event.server_line a u → Turns s t log at reply (Err a) u
  reply_stop d = record { walks = line_stop (reply_lists at) d; farther = tt }

  module _ {l : Lined} (d : LinedTo s t log at event.server_line l u) where
    pub reply_on : starts_with (text "221") (part s at l.clean) ≡ false → Turns s t log at reply (Ok l.to) u
    unfolding reply_lists reacts on_reply
    reply_on h = record { walks = line_on (reply_lists at) d (rw (← d.line.is, h) (here l.to.at d.line.ends.within)); farther = d.line.ends.on }

    pub reply_last : {a : Stop} → starts_with (text "221") (part s at l.clean) ≡ true → Stopped Done l.to.at l.to.log a → Turns s t log at reply (Err a) u
    unfolding reply_lists reacts on_reply
    reply_last h w = record { walks = line_on (reply_lists at) d (rw (← d.line.is, h, behind d.line.ends) (stop w)); farther = tt }
