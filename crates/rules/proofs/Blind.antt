-- Each phase is blind to the permitted changes of its piece: the changed piece is read as a piece, and answered the same.
-- Assumes nothing.
use mathlib.Core.Path.{◌≡◌, refl, sym, ap, ◌∙◌}
use mathlib.Core.Logic.{◌⊎◌, inl, inr}
use mathlib.Core.Bool.{Bool, true, false, cond, not, ◌&&◌, ◌||◌}
use mathlib.Core.List.{List, [], ◌∷◌}
use Rattle.std.specs.Prelude.{Option, None, Some}
use Prim.Native.Nat.{ℕ, zero, suc, ◌+◌, ◌-◌, ◌≤◌, ◌<◌}
use native.Mathlib.Omega.{arith}
use lib.Dec.{eqb, leb, ltb}
use lib.ListN.{length, get_or}
use lib.Seq.{ext_get_or}
use borrow.Author.Tests.{eqb-true, not-true}
use Rattle.events.specs.Events.{ev, body_line, sized_body, part_body, user, password}
use Rattle.events.specs.declared.Encoding.{Encoding}
use Rattle.events.specs.declared.Encoding.TheVariants.{Unsaid}
use Rattle.events.specs.declared.Outcome.TheVariants.{Done, NoHello, BadDelimiter, SmallLiteral, OpenLiteral, TooDeep}
use Rattle.fields.specs.Common.{Known, unknown, scanned}
use Rattle.fields.specs.Imap.{is_append, append_size, holds_colon}
use Rattle.fields.specs.Pop3.{stls_answer, retr_answer}
use Rattle.fields.specs.Smtp.{starts_with_helo, is_mail_from, second_line, is_data, mail_from, rcpt_to}
use Rattle.reading.specs.declared.Span.{Span}
use Rattle.fields.specs.declared.smtp.Second.{Second}
use Rattle.fields.specs.declared.smtp.Second.TheVariants as is
use Rattle.reading.proofs.Alike.{line_alike, bytes_alike, clean_alike, crlf_alike}
use Rattle.reading.proofs.Ends.{clean_within}
use Rattle.reading.proofs.Places.{by_test}
use Rattle.reading.proofs.Words.{both_true, same_is}
use Rattle.reading.specs.Bytes.{starts_with, same, ends_with}
use Rattle.reading.specs.Text.{text}
use Rattle.reading.specs.Reading.{a_line, bytes, got, fetch, reach, parted, clean, crlf}
use Rattle.rules.specs.Imap.{on_command, on_offered, on_closing}
use Rattle.rules.specs.Machine.{Reaction}
use Rattle.rules.specs.Mail.{dot_line, hyphens, levels, rest, literal_body, plain_mail, boundary_free, begun, on_head, on_text, on_literal, on_preamble, on_opened, held, whole, content_length, on_content, skip, on_between, on_skipping, on_resting}
use Rattle.rules.specs.Phases.{Phase, State, reads, ends, wants, need, then, stop}
use Rattle.rules.specs.Phases
use Rattle.rules.specs.Pop3.{on_status}
use Rattle.rules.specs.Secrecy.{inside, no_line_end, may_turn, may, Replaced}
use Rattle.rules.specs.Sessions.{reacts, react}
use Rattle.rules.specs.Strict.{is_bare, strictly, react_with}
use Rattle.rules.specs.Smtp.{on_hello, given, tried, by_second, on_second, on_user, on_password, on_sender, on_seeking, by_recipient, on_recipient, on_reply}
use Rattle.rules.specs.declared.Mail.{Mail}
use Rattle.rules.specs.declared.Mail.TheVariants.{Smtp, Pop3, Imap}
use Rattle.rules.specs.declared.Settings.{Settings}
use Rattle.rules.proofs.Changes.{apart, secret, AllLie, still, still_lies, unchanged}

-- ---- a phase is blind to what may be changed of its piece: the changed piece is a piece of the same reaction
pub record Blind (react : State → ℕ → List ℕ → Reaction State) (st : State) (at : ℕ) (p : List ℕ) : Type 0 where
  pub lie : AllLie at (at + length p) (react st at p).events
  pub piece : (q : List ℕ) → Replaced (react st at p).events at p q → fetch (need st) q ≡ got q []
  pub same : (q : List ℕ) → Replaced (react st at p).events at p q → react st at q ≡ react st at p
  pub bare : (q : List ℕ) → Replaced (react st at p).events at p q → is_bare (need st) q ≡ is_bare (need st) p

still_blind : (st : State) (at : ℕ) (p : List ℕ) → fetch (need st) p ≡ got p [] → still (react st at p).events ≡ true → Blind react st at p
still_blind st at p g h = record {
  lie = still_lies at (at + length p) (react st at p).events h;
  piece = λ q w. rw (unchanged (react st at p).events at p q h w) g;
  same = λ q w. ap (react st at) (unchanged (react st at p).events at p q h w);
  bare = λ q w. ap (is_bare (need st)) (unchanged (react st at p).events at p q h w);
}

-- ---- phases whose events allow nothing
either : (b : Bool) (x y : Reaction State) → still x.events ≡ true → still y.events ≡ true → still (cond b x y).events ≡ true
either true x y h g = h
either false x y h g = g

still_given : (at : ℕ) (a : Option Span) → still (given at a) ≡ true
unfolding still secret given
still_given at (Some s) = refl
still_given at None = refl

still_second : (s : Second) (at : ℕ) (l : List ℕ) → still (by_second s at l).events ≡ true
unfolding by_second still
still_second is.StartTls at l = refl
still_second is.AuthLogin at l = refl
still_second is.MailFrom at l = still_given at _
still_second is.Other at l = refl

still_recipient : (at : ℕ) (a : Option Span) → still (by_recipient at a).events ≡ true
unfolding by_recipient still secret
still_recipient at (Some s) = refl
still_recipient at None = refl

still_literal : (e : Encoding) (to n : ℕ) → still (literal_body e to n).events ≡ true
unfolding literal_body still secret
still_literal e to zero = refl
still_literal e to (suc n) = refl

still_mail : (m : Mail) (e : Encoding) (to : ℕ) → still (plain_mail m e to).events ≡ true
unfolding plain_mail still secret
still_mail Smtp e to = refl
still_mail Pop3 e to = refl
still_mail (Imap size start) e to = either (ltb size (to - start)) (stop [] SmallLiteral to) (literal_body e to (rest (Imap size start) to)) refl
    (still_literal e to (rest (Imap size start) to))

still_plain : (m : Mail) (e : Encoding) (os : List (List ℕ)) (to : ℕ) → still (boundary_free m e os to).events ≡ true
unfolding boundary_free still secret
still_plain m e [] to = still_mail m e to
still_plain m e (b ∷ os) to = refl

still_begun : (m : Mail) (e : Encoding) (b : Option (List ℕ)) (os : List (List ℕ)) (to : ℕ) → still (begun m e b os to).events ≡ true
unfolding begun still
still_begun m e None os to = still_plain m e os to
still_begun m e (Some b) os to = either (leb levels (length os)) (stop [] TooDeep to) (then [] (Phases.preamble m b os)) refl refl

still_head : (m : Mail) (k : Known) (os : List (List ℕ)) (at : ℕ) (l : List ℕ) → still (on_head m k os at l).events ≡ true
unfolding on_head still secret
still_head m k os at l =
    either (same crlf l) (begun m k.encoding k.boundary os (at + length l)) (then [] (Phases.head m (scanned k l) os))
    (still_begun m k.encoding k.boundary os (at + length l)) refl

still_command : (at : ℕ) (l : List ℕ) → still (on_command at l).events ≡ true
unfolding on_command still secret
still_command at l = either (is_append (clean l)) (then [] (Phases.offered (append_size (clean l)))) (then [] Phases.command) refl refl

pub still_content : (e : Encoding) (at n : ℕ) → still (whole part_body e at n) ≡ true
unfolding whole held still secret
still_content e at zero = refl
still_content e at (suc n) = refl

-- ---- lines in which neither CR nor LF is replaced or brought in, and no dot brought in
unfoldable fresh : ℕ → Bool
fresh c = no_line_end c && not (eqb c 46)

record Kept (p q : List ℕ) : Type 0 where
  long : length q ≡ length p
  bytes : (i : ℕ) → i < length p → (get_or p i 0 ≡ get_or q i 0) ⊎ ((no_line_end (get_or p i 0) ≡ true) × (fresh (get_or q i 0) ≡ true))

pub or_same : (x a : Bool) → a ≡ true → (x || a) ≡ true
or_same true a h = refl
or_same false a h = h

or_left : (a b : Bool) → (a || b) ≡ true → b ≡ false → a ≡ true
or_left true b h g = refl
or_left false b h g = absurd (apart (sym h ∙ g))

turned : (k o n p b c : ℕ) (e : Encoding) → eqb k sized_body ≡ false → may (ev k o n e ∷ []) p b c ≡ true
    → (b ≡ c) ⊎ ((no_line_end b ≡ true) × (fresh c ≡ true))
unfolding may may_turn fresh
turned k o n p b c e z h =
    by_test (eqb b c)
    (λ t. inl (eqb-true b c t))
    (λ f.
    let i = (both_true (inside (ev k o n e) p) (may_turn k b c) (or_left (inside (ev k o n e) p && may_turn k b c) (eqb b c) h f)).1 in
    let j = (both_true (eqb k user || (eqb k password || eqb k body_line)) (no_line_end b && fresh c) (or_left _ (eqb k sized_body) i z)).1 in
    inr (both_true (no_line_end b) (fresh c) j))

-- a CR stays a CR, an LF an LF, and no other byte becomes one
mark_kept : (x : ℕ) {p q : List ℕ} → ((b : ℕ) → no_line_end b ≡ true → eqb b x ≡ false) → Kept p q → (i : ℕ) → i < length p → eqb (get_or q i 0) x ≡ eqb (get_or p i 0) x
unfolding fresh
mark_kept x {p} {q} other w i h = by_byte (w.bytes i h)
  where
    by_byte : (get_or p i 0 ≡ get_or q i 0) ⊎ ((no_line_end (get_or p i 0) ≡ true) × (fresh (get_or q i 0) ≡ true)) → eqb (get_or q i 0) x ≡ eqb (get_or p i 0) x
    by_byte (inl e) = ap (λ (b : ℕ). eqb b x) (sym e)
    by_byte (inr e) = other (get_or q i 0) (both_true (no_line_end (get_or q i 0)) _ e.1).0 ∙ sym (other (get_or p i 0) e.0)

no_cr : (b : ℕ) → no_line_end b ≡ true → eqb b 13 ≡ false
unfolding no_line_end
no_cr b h = not-true (eqb b 13) (both_true (not (eqb b 13)) (not (eqb b 10)) h).0

no_lf : (b : ℕ) → no_line_end b ≡ true → eqb b 10 ≡ false
unfolding no_line_end
no_lf b h = not-true (eqb b 10) (both_true (not (eqb b 13)) (not (eqb b 10)) h).1

clean_kept : {p q : List ℕ} → Kept p q → length (clean q) ≡ length (clean p)
clean_kept {p} {q} w = clean_alike p q w.long (mark_kept 10 no_lf w) (mark_kept 13 no_cr w)

crlf_kept : {p q : List ℕ} → Kept p q → ends_with crlf q ≡ ends_with crlf p
crlf_kept {p} {q} w = crlf_alike p q w.long (mark_kept 10 no_lf w) (mark_kept 13 no_cr w)

-- one event of a line kind: the line is a line again, and the rest is up to the phase
line_blind : (ph : Phase) (k n at : ℕ) (e : Encoding) (p : List ℕ) → wants ph ≡ a_line → eqb k sized_body ≡ false → n ≤ length p → fetch (wants ph) p ≡ got p []
    → (reacts ph at p).events ≡ ev k at n e ∷ []
    → ((q : List ℕ) → Kept p q → reacts ph at q ≡ reacts ph at p)
    → Blind react (reads ph) at p
unfolding AllLie react need is_bare
line_blind ph k n at e p a z h g es same =
    let kept : (q : List ℕ) → Replaced (reacts ph at p).events at p q → Kept p q =
    λ q w. record { long = w.long; bytes = λ i j. turned k at n (at + i) (get_or p i 0) (get_or q i 0) e z (rw es at (w.bytes i j)) } in
    record {
      lie = rw es (record { from = λ t. omega arith; to = λ t. omega arith }, tt);
      piece = λ q w. rw a (line_alike p q w.long (rw a at g) (mark_kept 10 no_lf (kept q w)));
      same = λ q w. same q (kept q w);
      bare = λ q w. rw a (ap not (crlf_kept (kept q w)));
    }

-- a dot line has no fresh byte, so that it was one before
not_fresh : (i : ℕ) → i < 3 → fresh (get_or dot_line i 0) ≡ false
unfolding fresh no_line_end
not_fresh zero h = refl
not_fresh (suc zero) h = refl
not_fresh (suc (suc zero)) h = refl
not_fresh (suc (suc (suc i))) h = absurd (omega arith)

was_dot : {p q : List ℕ} → Kept p q → q ≡ dot_line → p ≡ dot_line
was_dot {p} {q} w e = ext_get_or 0 p dot_line (sym w.long ∙ ap length e) (λ i h. by_byte i (omega (arith, w.long, ap length e)) (w.bytes i h))
  where
    by_byte : (i : ℕ) → i < 3 → (get_or p i 0 ≡ get_or q i 0) ⊎ ((no_line_end (get_or p i 0) ≡ true) × (fresh (get_or q i 0) ≡ true)) → get_or p i 0 ≡ get_or dot_line i 0
    by_byte i h (inl b) = b ∙ ap (λ (l : List ℕ). get_or l i 0) e
    by_byte i h (inr b) = absurd (apart (sym b.1 ∙ ap (λ (l : List ℕ). fresh (get_or l i 0)) e ∙ not_fresh i h))

dot_kept : {p q : List ℕ} → Kept p q → same dot_line p ≡ false → same dot_line q ≡ false
unfolding same starts_with
dot_kept {p} {q} w f =
    by_test (same dot_line q)
    (λ t. absurd (apart (sym (ap (same dot_line) (was_dot w (same_is dot_line q t))) ∙ f)))
    (λ g. g)

text_blind : (m : Mail) (e : Encoding) (at : ℕ) (p : List ℕ) → fetch a_line p ≡ got p [] → Blind react (reads (Phases.text m e)) at p
unfolding still secret react reacts need wants on_text
text_blind m e at p g =
    by_test (same dot_line p)
    (λ t. still_blind (reads (Phases.text m e)) at p g (rw t refl))
    (λ f. line_blind (Phases.text m e) body_line (length p) at e p refl refl (omega arith) g (rw f refl) (λ q w. rw (f, dot_kept w f, w.long) refl))

-- of a literal only the size tells
literal_lies : (e : Encoding) (at n : ℕ) → AllLie at (at + n) (whole sized_body e at n)
unfolding AllLie whole held secret
literal_lies e at zero = (record { from = λ t. omega arith; to = λ t. omega arith }, tt)
literal_lies e at (suc n) = (record { from = λ t. omega arith; to = λ t. omega arith }, (record { from = λ t. omega arith; to = λ t. omega arith }, tt))

literal_blind : (e : Encoding) (n at : ℕ) (p : List ℕ) → fetch (bytes n) p ≡ got p [] → Blind react (reads (Phases.literal e n)) at p
unfolding react reacts need wants on_literal is_bare
literal_blind e n at p g = record {
  lie = literal_lies e at (length p);
  piece = λ q w. bytes_alike p q w.long n g;
  same = λ q w. ap (λ (l : ℕ). then (whole sized_body e at l) Phases.closing) w.long;
  bare = λ q w. refl;
}

blinds : (ph : Phase) (at : ℕ) (l : List ℕ) → fetch (wants ph) l ≡ got l [] → Blind react (reads ph) at l
unfolding still secret react reacts need wants on_hello on_second on_user on_password on_sender on_seeking on_recipient on_reply on_status on_offered on_closing on_preamble on_opened
    on_content on_between on_skipping on_resting
blinds Phases.hello at l g = still_blind (reads Phases.hello) at l g (either (starts_with_helo l) (then [] Phases.second) (stop [] NoHello 0) refl refl)
blinds Phases.second at l g = still_blind (reads Phases.second) at l g (still_second (second_line (clean l)) at (clean l))
blinds Phases.user at l g = line_blind Phases.user user (length (clean l)) at Unsaid l refl refl (clean_within l) g refl
    (λ q w. ap (λ (n : ℕ). then (ev user at n Unsaid ∷ []) Phases.password) (clean_kept w))
blinds Phases.password at l g = line_blind Phases.password password (length (clean l)) at Unsaid l refl refl (clean_within l) g refl
    (λ q w. ap (λ (n : ℕ). then (ev password at n Unsaid ∷ []) Phases.sender) (clean_kept w))
blinds Phases.sender at l g = still_blind (reads Phases.sender) at l g (still_given at (mail_from (clean l)))
blinds Phases.seeking at l g = still_blind (reads Phases.seeking) at l g
    (either (is_mail_from (clean l)) (tried at (clean l)) (then [] Phases.seeking) (still_given at (mail_from (clean l))) refl)
blinds Phases.recipient at l g = still_blind (reads Phases.recipient) at l g
    (either (is_data (clean l)) (then [] (Phases.head Smtp unknown [])) (by_recipient at (rcpt_to (clean l))) refl (still_recipient at (rcpt_to (clean l))))
blinds Phases.reply at l g = still_blind (reads Phases.reply) at l g (either (starts_with (text "221") (clean l)) (stop [] Done (at + length l)) (then [] Phases.reply) refl refl)
blinds Phases.status at l g = still_blind (reads Phases.status) at l g
    (either (stls_answer (clean l)) (stop [] Done (at + length l)) (cond (retr_answer (clean l)) (then [] (Phases.head Pop3 unknown [])) (then [] Phases.status)) refl
    (either (retr_answer (clean l)) (then [] (Phases.head Pop3 unknown [])) (then [] Phases.status) refl refl))
blinds Phases.command at l g = still_blind (reads Phases.command) at l g (still_command at l)
blinds (Phases.offered size) at l g = still_blind (reads (Phases.offered size)) at l g
    (either (holds_colon l) (on_head (Imap size at) unknown [] at l) (on_command at l) (still_head (Imap size at) unknown [] at l) (still_command at l))
blinds Phases.closing at l g = still_blind (reads Phases.closing) at l g (either (same crlf l) (then [] Phases.command) (stop [] OpenLiteral at) refl refl)
blinds (Phases.head m k os) at l g = still_blind (reads (Phases.head m k os)) at l g (still_head m k os at l)
blinds (Phases.text m e) at l g = text_blind m e at l g
blinds (Phases.literal e n) at l g = literal_blind e n at l g
blinds (Phases.preamble m b os) at l g = still_blind (reads (Phases.preamble m b os)) at l g refl
blinds (Phases.opened m b os) at l g = still_blind (reads (Phases.opened m b os)) at l g
    (either (same crlf l) (then [] (Phases.head m unknown (b ∷ os))) (stop [] BadDelimiter at) refl refl)
blinds (Phases.content m e b os) at l g = still_blind (reads (Phases.content m e b os)) at l g (still_content e at (content_length b (length l)))
blinds (Phases.between m b os) at l g = still_blind (reads (Phases.between m b os)) at l g
    (either (same hyphens l) (record { events = []; next = skip m b os (at + length l) })
    (cond (same crlf l) (then [] (Phases.head m unknown (b ∷ os))) (stop [] BadDelimiter at)) refl
    (either (same crlf l) (then [] (Phases.head m unknown (b ∷ os))) (stop [] BadDelimiter at) refl refl))
blinds (Phases.skipping m b os) at l g = still_blind (reads (Phases.skipping m b os)) at l g (refl)
blinds (Phases.resting m b os n) at l g = still_blind (reads (Phases.resting m b os n)) at l g (refl)

pub blind : (st : State) (at : ℕ) (p : List ℕ) → fetch (need st) p ≡ got p [] → Blind react st at p
unfolding need fetch reach parted
blind (reads ph) at p g = blinds ph at p g
blind (ends r q) at p g = absurd (let z : ◌≡◌ {A = ℕ} 0 1 = cc in omega arith)

-- ---- with settings: a line ends in CRLF where it did, so that it is refused where it was; one that is refused lists nothing
module _ (set : Settings) (st : State) (at : ℕ) (p : List ℕ) (g : fetch (need st) p ≡ got p []) where
  refused_blind : (is_bare (need st) p && set.strict) ≡ true → Blind (react_with set) st at p
  unfolding strictly still
  refused_blind h =
      let e : (react_with set st at p).events ≡ [] = rw h in
      let same : (q : List ℕ) → Replaced (react_with set st at p).events at p q → q ≡ p = λ q w. unchanged (react_with set st at p).events at p q (rw e) w in
      record {
        lie = still_lies at (at + length p) (react_with set st at p).events (rw e);
        piece = λ q w. rw (same q w) g;
        same = λ q w. ap (react_with set st at) (same q w);
        bare = λ q w. ap (is_bare (need st)) (same q w);
      }

  passed_blind : (is_bare (need st) p && set.strict) ≡ false → Blind (react_with set) st at p
  unfolding strictly
  passed_blind h =
      let e : react_with set st at p ≡ react st at p = rw h in
      let b = blind st at p g in
      record {
        lie = rw e b.lie;
        piece = λ q w. b.piece q (rw e at w);
        same = λ q w. let v : Replaced (react st at p).events at p q = rw e at w in rw (b.bare q v, h) (b.same q v);
        bare = λ q w. b.bare q (rw e at w);
      }

  pub blind_with : Blind (react_with set) st at p
  blind_with = by_test (is_bare (need st) p && set.strict) refused_blind passed_blind
