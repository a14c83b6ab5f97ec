-- What each phase does with its piece, as the code meets it: the envelope, lines of the other sides, and bodies with no boundary.
-- Assumes nothing.
use mathlib.Core.Path.{◌≡◌, refl, sym, ap, ◌∙◌}
use mathlib.Core.Bool.{true, false, cond}
use mathlib.Core.List.{List, [], ◌∷◌}
use mathlib.Core.Logic.{◌⊎◌, inl, inr}
use Prim.Native.Nat.{ℕ, ◌+◌, ◌-◌, ◌≤◌}
use native.Mathlib.Omega.{arith}
use lib.Dec.{ltb}
use lib.ListN.{length, drop, length-drop}
use borrow.Author.Tests.{lt-ltb}
use Rattle.events.specs.Events.{ev, body_line, body_stop, server_line, client_line}
use Rattle.events.specs.Events as event
use Rattle.events.specs.declared.Encoding.{Encoding}
use Rattle.events.specs.declared.Encoding.TheVariants.{Unsaid}
use Rattle.events.specs.Table.{pour}
use Rattle.events.specs.declared.Log.{Log}
use Rattle.events.specs.declared.Outcome.TheVariants.{Done, NoHello, NoRecipient, OpenLiteral}
use Rattle.fields.specs.Common.{part, unknown}
use Rattle.fields.specs.Imap.{is_append, append_size, holds_colon}
use Rattle.fields.specs.Pop3.{stls_answer, retr_answer}
use Rattle.fields.specs.Smtp.{starts_with_helo, is_mail_from, second_line, is_data, mail_from, rcpt_to}
use Rattle.std.specs.Prelude.{Some, None, Result, Ok, Err}
use Rattle.fields.specs.declared.smtp.Second.{Second}
use Rattle.reading.specs.declared.Span.{Span}
use Rattle.reading.specs.Bytes.{starts_with, same}
use Rattle.reading.specs.Reading.{a_line, bytes, crlf, clean, reach}
use Rattle.reading.specs.Text.{text}
use Rattle.reads.proofs.Laws.{clean_length, ends_at, begun_pop3}
use Rattle.reads.specs.Clauses.{Ends, Cleaned, Pair, TwoIs, Stopped, Full, Written, Notes}
use Rattle.reads.specs.declared.Stop.{Stop}
use Rattle.reads.specs.declared.Two.{Two}
use Rattle.reads.specs.declared.Two.TheVariants.{Crlf, Hyphens, Other}
use Rattle.rules.specs.Machine.{Reaction}
use Rattle.rules.specs.Imap.{on_command, on_offered, on_closing}
use Rattle.rules.specs.Mail.{dot_line, after_mail, on_text, on_literal}
use Rattle.rules.specs.Phases as phase
use Rattle.rules.specs.Phases.{State, reads, ends, wants, then, stop}
use Rattle.rules.specs.Pop3.{on_status}
use Rattle.rules.specs.Sessions.{reacts}
use Rattle.rules.specs.Smtp.{on_hello, given, by_second, on_second, tried, on_user, on_password, on_sender, on_seeking, by_recipient, on_recipient, on_reply}
use Rattle.rules.specs.declared.Mail.{Mail}
use Rattle.rules.specs.declared.Mail.TheVariants.{Smtp, Pop3, Imap}
use Rattle.rules.specs.declared.Settings.{Settings}
use Rattle.windows.proofs.Blindly.{literal_cut}
use Rattle.windows.proofs.Courses.{taking, under_literal}
use Rattle.windows.proofs.Piecemeal.{Comes, comes}
use Rattle.windows.proofs.Sized.{by_bytes}
use Rattle.windows.specs.Stands.{Stand, fresh, enter, enters, in_literal}
use Rattle.windows.specs.Windows.{over, keeps, landed, lands}
use Rattle.phases.specs.Phasing.{CleanPasses, Halts, state_of, Fits, Piece, Leaves, Goes, over_of, onward_of, unheard, RecipientIs, Lists, Leads, Stays, Gives}
use Rattle.phases.specs.declared.Heard.{Heard}
use Rattle.phases.specs.declared.Phase.{Phase}
use Rattle.phases.specs.declared.Spot.{Spot}
use Rattle.phases.specs.declared.Phase.TheVariants as is
use Rattle.phases.proofs.Turning.{to_end, piece_of, halts, leads_written, leads_full, leads_still, leads, Looped, looped_on, looped_leaves, looped_goes, first_head}

-- ---- the first line
pub hello_yes : (at : ℕ) (l : List ℕ) → starts_with_helo l ≡ true → reacts phase.hello at l ≡ then [] phase.second
unfolding reacts on_hello
hello_yes at l h = rw h

pub hello_not : (at : ℕ) (l : List ℕ) → starts_with_helo l ≡ false → reacts phase.hello at l ≡ stop [] NoHello 0
unfolding reacts on_hello
hello_not at l h = rw h

-- ---- a line that is tried as sender
module _ {set : Settings} {w : List ℕ} {base p : ℕ} {f : Stand} {e : ℕ} (l : List ℕ) (d : Piece set w base p f e (tried (base + p) l)) where
  pub tried_none : mail_from l ≡ None → Piece set w base p f e (then [] phase.recipient)
  unfolding given
  tried_none h = rw h at d

  pub tried_given : {a : Span} → mail_from l ≡ Some a → Piece set w base p f e (then (ev event.sender (base + p + a.at) a.len Unsaid ∷ []) phase.recipient)
  unfolding given
  tried_given h = rw h at d

-- ---- a line that is read as a recipient
module _ {w : List ℕ} {base p end : ℕ} {t : List ℕ} {log : Log} where
  pub recipient_none : {a : Stop} → rcpt_to (part w p end) ≡ None → Stopped NoRecipient (base + p) log a → RecipientIs w base p end t log (Err a) t
  unfolding by_recipient state_of enter Fits
  recipient_none h s = record {
    is = λ e. record { is = λ set k f d. rw (s.result, s.place, s.log) (leads_still (rw h at d) refl (record { is = refl; fits = tt })) };
  }

  pub recipient_given : {a : Span} {r : Result Log Stop} {u : List ℕ} → rcpt_to (part w p end) ≡ Some a
      → Notes t log (ev event.recipient (base + p + a.at) a.len Unsaid ∷ []) r u → RecipientIs w base p end t log r u
  unfolding by_recipient state_of enter enters Fits
  recipient_given {r = r} {u} h s = record {
    is = λ e. record { is = λ set k f d. leads (rw h at d) k t log r u is.Recipient s (record { is = refl; fits = tt }) };
  }

-- ---- lines of which the clean part counts
module _ (base : ℕ) {w : List ℕ} {p end e : ℕ} (d : Cleaned w p end e) where
  pub second_by : {x : Second} → x ≡ second_line (part w p end) → reacts phase.second (base + p) (part w p e) ≡ by_second x (base + p) (part w p end)
  unfolding reacts on_second
  second_by h = rw (← d.is, h)

  pub sender_by : reacts phase.sender (base + p) (part w p e) ≡ tried (base + p) (part w p end)
  unfolding reacts on_sender
  sender_by = rw d.is

  pub seeking_from : is_mail_from (part w p end) ≡ true → reacts phase.seeking (base + p) (part w p e) ≡ tried (base + p) (part w p end)
  unfolding reacts on_seeking
  seeking_from h = rw (← d.is, h)

  pub seeking_on : is_mail_from (part w p end) ≡ false → reacts phase.seeking (base + p) (part w p e) ≡ then [] phase.seeking
  unfolding reacts on_seeking
  seeking_on h = rw (← d.is, h)

  pub recipient_data : is_data (part w p end) ≡ true → reacts phase.recipient (base + p) (part w p e) ≡ then [] (phase.head Smtp unknown [])
  unfolding reacts on_recipient
  recipient_data h = rw (← d.is, h)

  pub recipient_by : is_data (part w p end) ≡ false → reacts phase.recipient (base + p) (part w p e) ≡ by_recipient (base + p) (rcpt_to (part w p end))
  unfolding reacts on_recipient
  recipient_by h = rw (← d.is, h)

-- ---- behind an append, and behind its literal
pub offered_mail : (size at : ℕ) (l : List ℕ) → holds_colon l ≡ true → reacts (phase.offered size) at l ≡ reacts (phase.head (Imap size at) unknown []) at l
unfolding reacts on_offered
offered_mail size at l h = rw h

pub offered_not : (size at : ℕ) (l : List ℕ) → holds_colon l ≡ false → reacts (phase.offered size) at l ≡ reacts phase.command at l
unfolding reacts on_offered
offered_not size at l h = rw h

module _ {w : List ℕ} {p : ℕ} (at : ℕ) where
  pub closing_crlf : Pair w p crlf → reacts phase.closing at (part w p (p + 2)) ≡ then [] phase.command
  unfolding reacts on_closing same starts_with
  closing_crlf d = rw d.is

pub closing_not : (w : List ℕ) (p at : ℕ) (x : Two) → (x ≡ Hyphens) ⊎ (x ≡ Other) → TwoIs w p (Ok x) → reacts phase.closing at (part w p (p + 2)) ≡ stop [] OpenLiteral at
unfolding reacts on_closing same starts_with
closing_not w p at Crlf h d = absurd (elim h [ inl e ↦ absurd cc | inr e ↦ absurd cc ])
closing_not w p at Hyphens h d = rw d.is
closing_not w p at Other h d = rw d.no_crlf

-- ---- lines of a mail with no boundary
module _ (base : ℕ) {w : List ℕ} {p e : ℕ} (m : Mail) (c : Encoding) (d : Ends a_line w p e) where
  pub text_dot : same dot_line (part w p e) ≡ true
      → reacts (phase.text m c) (base + p) (part w p e) ≡ record { events = ev body_stop (base + p) 0 Unsaid ∷ []; next = after_mail m (base + e) }
  unfolding reacts on_text
  text_dot h = rw (h, to_end base d)

  pub text_line : same dot_line (part w p e) ≡ false → reacts (phase.text m c) (base + p) (part w p e) ≡ then (ev body_line (base + p) (e - p) c ∷ []) (phase.text m c)
  unfolding reacts on_text
  text_line h = rw (h, d.long)

-- ---- phases that list each of their lines, before any test of it
pub reply_lists : Lists is.Reply server_line phase.reply
unfolding reacts on_reply wants state_of Fits enter enters
reply_lists = record {
  stands = λ k. refl;
  enters = λ k to. record { is = refl; fits = tt };
  wants = refl;
  behind = λ at l. (cond (starts_with (text "221") (clean l)) (stop [] Done (at + length l)) (then [] phase.reply)).events;
  is = λ at l. refl;
}

pub status_lists : Lists is.Status server_line phase.status
unfolding reacts on_status wants state_of Fits enter enters
status_lists = record {
  stands = λ k. refl;
  enters = λ k to. record { is = refl; fits = tt };
  wants = refl;
  behind = λ at l.
      (cond (stls_answer (clean l)) (stop [] Done (at + length l))
      (cond (retr_answer (clean l)) (then [] (phase.head Pop3 unknown [])) (then [] phase.status))).events;
  is = λ at l. refl;
}

pub command_lists : Lists is.Command client_line phase.command
unfolding reacts on_command wants state_of Fits enter enters
command_lists = record {
  stands = λ k. refl;
  enters = λ k to. record { is = refl; fits = tt };
  wants = refl;
  behind = λ at l. (cond (is_append (clean l)) (then [] (phase.offered (append_size (clean l)))) (then [] phase.command)).events;
  is = λ at l. refl;
}

-- what their lines lead to
pub reply_last : {l : List ℕ} {to : ℕ} → starts_with (text "221") l ≡ true → Leads server_line phase.reply l to (is.Over Done to)
unfolding reacts on_reply state_of enter Fits
reply_last {to = to} h = record {
  next = ends Done to;
  enters = λ k. record { is = refl; fits = tt };
  is = λ at whole c e. rw (c, h, e);
}

pub reply_on : {l : List ℕ} → starts_with (text "221") l ≡ false → Stays server_line phase.reply l
unfolding reacts on_reply
reply_on h = record { is = λ at whole c. rw (c, h) }

pub status_tls : {l : List ℕ} {to : ℕ} → stls_answer l ≡ true → Leads server_line phase.status l to (is.Over Done to)
unfolding reacts on_status state_of enter Fits
status_tls {to = to} h = record {
  next = ends Done to;
  enters = λ k. record { is = refl; fits = tt };
  is = λ at whole c e. rw (c, h, e);
}

pub status_mail : {l : List ℕ} {to : ℕ} {x : Heard} → stls_answer l ≡ false → retr_answer l ≡ true → x ≡ unheard → Leads server_line phase.status l to (is.Head Pop3 x 0)
unfolding reacts on_status
status_mail {to = to} h g u = record {
  next = reads (phase.head Pop3 unknown []);
  enters = λ k. first_head k to begun_pop3 u;
  is = λ at whole c e. rw (c, h, g);
}

pub status_on : {l : List ℕ} → stls_answer l ≡ false → retr_answer l ≡ false → Stays server_line phase.status l
unfolding reacts on_status
status_on h g = record { is = λ at whole c. rw (c, h, g) }

pub command_append : {l : List ℕ} {to n : ℕ} → is_append l ≡ true → n ≡ append_size l → Leads client_line phase.command l to (is.Offered n)
unfolding reacts on_command state_of enter enters Fits
command_append {n = n} h g = record {
  next = reads (phase.offered n);
  enters = λ k. record { is = refl; fits = tt };
  is = λ at whole c e. rw (c, h, g);
}

pub command_on : {l : List ℕ} → is_append l ≡ false → Stays client_line phase.command l
unfolding reacts on_command
command_on h = record { is = λ at whole c. rw (c, h) }

part_length : {w : List ℕ} {p end e : ℕ} → Cleaned w p end e → end - p ≡ length (part w p end)
part_length d = clean_length d ∙ sym (ap length d.is)

-- a loop over the lines of such a phase: what is left at p is what was left at a
module _ {set : Settings} {w : List ℕ} {base a : ℕ} {t₀ : List ℕ} {log₀ : Log} {so : phase.Phase} {p : ℕ} {t : List ℕ} {log : Log} {ph : Phase} {kind : ℕ}
    (c : Looped set w base a t₀ log₀ (fresh (reads so)) p t log) (l : Lists ph kind so) where
  -- no line is finished, or it is refused
  pub lined_halts : {r : Spot} → Halts set w base p ph log r → (k : List ℕ) → Goes set w base a k t₀ log₀ (state_of k ph) r t
  lined_halts d k = rw (l.stands k) (looped_goes c (halts k t so (l.stands k) l.wants d c.came.within (l.enters k (base + p)).fits))

  module _ {end e : ℕ} (d : CleanPasses set w p end e) where
    piece : {re : Reaction State} → reacts so (base + p) (part w p e) ≡ re → Piece set w base p (fresh (reads so)) e re
    piece q = piece_of so (rw l.wants d.line.ends) (rw l.wants d.passes) q

    -- its event finds no slot
    pub lined_full : {s : Stop} {u : List ℕ} → Full t log (ev kind (base + p) (end - p) Unsaid ∷ []) s u → (k : List ℕ)
        → Leaves set w base a k t₀ log₀ (state_of k ph) (over_of s e) u
    lined_full n k =
        rw (l.stands k) (looped_leaves c (leads_full (piece refl) (l.behind (base + p) (part w p e)) (l.is (base + p) (part w p e)) (rw (clean_length d.line) at n)))

    module _ {next : Log} {u : List ℕ} (n : Written t log (ev kind (base + p) (end - p) Unsaid ∷ []) next u) where
      -- it is listed, and another phase follows
      pub lined_leads : {r : Phase} → Leads kind so (part w p end) (base + e) r → (k : List ℕ)
          → Leaves set w base a k t₀ log₀ (state_of k ph) (record { phase = r; taken = e; log = next }) u
      lined_leads s k =
          rw (l.stands k) (looped_leaves c (leads_written (piece (s.is (base + p) (part w p e) (sym d.line.is) (to_end base d.line.ends))) (rw (part_length d.line) at n)
          (s.enters k)))

      -- or another line
      pub lined_on : Stays kind so (part w p end) → length u ≡ length t → Looped set w base a t₀ log₀ (fresh (reads so)) e u next
      lined_on s m =
          looped_on c (piece (s.is (base + p) (part w p e) (sym d.line.is))) (rw (part_length d.line) at n) (sym (l.enters [] (base + e)).is ∙ l.stands []) m

-- a phase that lists its one line
module _ {set : Settings} {w : List ℕ} {base p : ℕ} {ph next : Phase} {kind : ℕ} {so to : phase.Phase} (l : Gives ph kind next so to) {log : Log} where
  pub given_halts : {r : Spot} → Halts set w base p ph log r → p ≤ length w → (k t : List ℕ) → Goes set w base p k t log (state_of k ph) r t
  given_halts d h k t = rw (l.stands k) (halts k t so (l.stands k) l.wants d h (l.fits (base + p)))

  pub given_leads : {end e : ℕ} → CleanPasses set w p end e → {t u : List ℕ} (r : Result Log Stop) → Notes t log (ev kind (base + p) (end - p) Unsaid ∷ []) r u → (k : List ℕ)
      → Leaves set w base p k t log (state_of k ph) (onward_of r next e) u
  given_leads {e = e} d {t} {u} r n k =
      rw (l.stands k) (leads (piece_of so (rw l.wants d.line.ends) (rw l.wants d.passes) (l.is (base + p) (part w p e))) k t log r u next (rw (clean_length d.line) at n)
      (l.enters k (base + e)))

pub user_gives : Gives is.User event.user is.Password phase.user phase.password
unfolding reacts on_user wants state_of enter enters Fits
user_gives = record { stands = λ k. refl; fits = λ at. tt; wants = refl; enters = λ k at. record { is = refl; fits = tt }; is = λ at l. refl }

pub password_gives : Gives is.Password event.password is.Sender phase.password phase.sender
unfolding reacts on_password wants state_of enter enters Fits
password_gives = record { stands = λ k. refl; fits = λ at. tt; wants = refl; enters = λ k at. record { is = refl; fits = tt }; is = λ at l. refl }

-- ---- a literal: left + 1 bytes, or as many of them as are shown
pub literal_piece : {set : Settings} (base : ℕ) {w : List ℕ} {p : ℕ} (c : Encoding) (from left : ℕ) → p + left + 1 ≤ length w
    → Piece set w base p (in_literal c from left) (p + left + 1) (on_literal c from (base + (p + left + 1) - from))
unfolding Comes reach
literal_piece {set} base {w} {p} c from left h =
    let z : p + (left + 1) ≡ p + left + 1 = omega arith in
    let l : ltb left (length (drop p w)) ≡ true = lt-ltb left (length (drop p w)) (omega (arith, length-drop p w)) in
    let d : Ends (bytes left) w p (p + left + 1) = rw z at (ends_at (bytes left) w p (left + 1) (omega arith) (rw l)) in
    record {
      on = omega arith;
      within = h;
      is = rw (← (to_end base d)) (rw d.is at (comes set taking by_bytes (under_literal set c from) left (base + p) (drop p w)));
    }

pub literal_waits : {set : Settings} {w : List ℕ} {base p : ℕ} {k t : List ℕ} {log : Log} (c : Encoding) (from left : ℕ) → p ≤ length w → length w - p ≤ left → from ≤ base + p
    → Goes set w base p k t log (in_literal c from left) (record { phase = is.Literal c from (left - (length w - p)); taken = length w; log = log }) t
unfolding state_of Fits lands pour landed keeps over
literal_waits {set} {w} {base} {p} {k} {t} {log} c from left h g f =
    let n : length (drop p w) ≡ length w - p = length-drop p w in
    let z : base + length w ≡ base + p + (length w - p) = omega arith in
    record {
      within = omega arith;
      fits = omega arith;
      is = sym (ap (lands base t log) (literal_cut set c from left (base + p) (drop p w) (omega (arith, n))) ∙ rw (n, z));
    }
