-- The test of a record, and a window shown to any record.
-- Assumes nothing.
use mathlib.Core.Path.{◌≡◌, refl, sym, ap, ◌∙◌}
use mathlib.Core.Bool.{Bool, true, false, ◌&&◌}
use mathlib.Core.List.{List}
use Prim.Native.Nat.{ℕ, zero, suc, ◌+◌, ◌-◌, ◌*◌, ◌≤◌, ◌<◌}
use native.Mathlib.Omega.{arith}
use Rattle.std.specs.Bool.{MatchBool}
use Rattle.std.specs.List.{AllWithin, HoldsAt, range_with_len}
use Rattle.std.proofs.lemmas.List.FromFn.{length-range_with_len, get_or-range_with_len}
use Rattle.rules.proofs.Strict.{and_off}
use lib.Dec.{eqb, leb}
use lib.ListN.{length, get_or, replicate}
use borrow.Author.Tests.{lt-ltb, le-ltb, le-leb, lt-leb, leb-true, eqb-true, eqb-false}
use Rattle.events.specs.Table.{no_events}
use Rattle.events.specs.declared.Outcome.TheVariants.{TooLong}
use Rattle.phases.specs.Phasing.{state_of, Fits, Ready, Went, spot_of}
use Rattle.phases.specs.declared.Phase.{Phase}
use Rattle.phases.specs.declared.Phase.TheVariants as is
use Rattle.phases.specs.declared.Spot.{Spot}
use Rattle.reading.proofs.Places.{by_test}
use Rattle.reading.proofs.Words.{both_true}
use Rattle.reads.proofs.Laws.{begun_smtp, begun_pop3}
use Rattle.reads.specs.Clauses.{Begins}
use Rattle.rules.specs.Sessions.{limit}
use Rattle.rules.specs.declared.Entry.{Entry}
use Rattle.rules.specs.declared.Entry.TheVariants.{SmtpClient, SmtpServer, Pop3Server, ImapClient}
use Rattle.rules.specs.declared.Mail.{Mail}
use Rattle.rules.specs.declared.Mail.TheVariants.{Smtp, Pop3, Imap}
use Rattle.rules.specs.declared.Settings.{Settings}
use Rattle.windows.proofs.Taken as takes
use Rattle.windows.specs.Stands.{enters}
use Rattle.windows.specs.Windows.{over, refused, window, taken}
use Rattle.tap.specs.Tapping.{record_of, begun_by, fits_by, short_to, is_sound, starts_at, Begun, Read, ShowsIf, Shows, Answers}
use Rattle.tap.specs.declared.Session.{Session}
use Rattle.tap.specs.declared.Shown.{Shown}

-- ---- numbers
begins_by : (m : Mail) (at : ℕ) → begun_by m at ≡ true → Begins m at
unfolding begun_by
begins_by Smtp at h = begun_smtp
begins_by Pop3 at h = begun_pop3
begins_by (Imap n b) at h = record { is = λ size start q. let z : b ≡ start = cc in omega (arith, leb-true b at h) }

by_begins : (m : Mail) (at : ℕ) → Begins m at → begun_by m at ≡ true
unfolding begun_by
by_begins Smtp at h = refl
by_begins Pop3 at h = refl
by_begins (Imap n b) at h = le-leb b at (h.is n b refl)

at_level : (i most : ℕ) (m : Mail) (at : ℕ) → (leb i most && begun_by m at) ≡ true → (i ≤ most) × Begins m at
at_level i most m at h = let b = both_true (leb i most) (begun_by m at) h in (leb-true i most b.0, begins_by m at b.1)

by_level : (i most : ℕ) (m : Mail) (at : ℕ) → i ≤ most → Begins m at → (leb i most && begun_by m at) ≡ true
by_level i most m at h b = rw (le-leb i most h) (by_begins m at b)

from_level : (from i : ℕ) (m : Mail) (at : ℕ) → (leb from at && (leb i 7 && begun_by m at)) ≡ true → (i ≤ 7) × (from ≤ at) × Begins m at
from_level from i m at h =
    let b = both_true (leb from at) (leb i 7 && begun_by m at) h in
    let g = at_level i 7 m at b.1 in
    (g.0, leb-true from at b.0, g.1)

by_from : (from i : ℕ) (m : Mail) (at : ℕ) → i ≤ 7 → from ≤ at → Begins m at → (leb from at && (leb i 7 && begun_by m at)) ≡ true
by_from from i m at h f b = rw (le-leb from at f) (by_level i 7 m at h b)

-- the test says what the phases ask
pub fits_by_lem : (ph : Phase) (at : ℕ) → fits_by ph at ≡ true → Fits ph at
unfolding fits_by Fits
fits_by_lem is.Hello at h = tt
fits_by_lem is.Second at h = tt
fits_by_lem is.User at h = tt
fits_by_lem is.Password at h = tt
fits_by_lem is.Sender at h = tt
fits_by_lem is.Seeking at h = tt
fits_by_lem is.Recipient at h = tt
fits_by_lem is.Reply at h = tt
fits_by_lem is.Status at h = tt
fits_by_lem is.Command at h = tt
fits_by_lem (is.Offered size) at h = tt
fits_by_lem is.Closing at h = tt
fits_by_lem (is.Head m x i) at h = at_level i 8 m at h
fits_by_lem (is.Text m e) at h = tt
fits_by_lem (is.Literal e from left) at h = leb-true from at h
fits_by_lem (is.Preamble m i from here) at h = from_level from i m at h
fits_by_lem (is.Opened m i) at h = at_level i 7 m at h
fits_by_lem (is.Content m e i from here) at h = from_level from i m at h
fits_by_lem (is.Between m i) at h = at_level i 7 m at h
fits_by_lem (is.Skipping m i) at h = at_level i 7 m at h
fits_by_lem (is.Resting m i n) at h = at_level i 7 m at h
fits_by_lem (is.Over r p) at h = tt

pub by_fits : (ph : Phase) (at : ℕ) → Fits ph at → fits_by ph at ≡ true
unfolding fits_by Fits
by_fits is.Hello at h = refl
by_fits is.Second at h = refl
by_fits is.User at h = refl
by_fits is.Password at h = refl
by_fits is.Sender at h = refl
by_fits is.Seeking at h = refl
by_fits is.Recipient at h = refl
by_fits is.Reply at h = refl
by_fits is.Status at h = refl
by_fits is.Command at h = refl
by_fits (is.Offered size) at h = refl
by_fits is.Closing at h = refl
by_fits (is.Head m x i) at h = by_level i 8 m at h.0 h.1
by_fits (is.Text m e) at h = refl
by_fits (is.Literal e from left) at h = le-leb from at h
by_fits (is.Preamble m i from here) at h = by_from from i m at h.0 h.1 h.2
by_fits (is.Opened m i) at h = by_level i 7 m at h.0 h.1
by_fits (is.Content m e i from here) at h = by_from from i m at h.0 h.1 h.2
by_fits (is.Between m i) at h = by_level i 7 m at h.0 h.1
by_fits (is.Skipping m i) at h = by_level i 7 m at h.0 h.1
by_fits (is.Resting m i n) at h = by_level i 7 m at h.0 h.1
by_fits (is.Over r p) at h = refl

-- ---- copies
below : {j n : ℕ} → (j ≡ n → ⊥) → j < suc n → j < n
below d g = omega arith

pub short_by : (k : List ℕ) (n : ℕ) → short_to k n ≡ true → (j : ℕ) → j < n → get_or k (j * 72) 0 ≤ 71
unfolding short_to
short_by k zero h j g = absurd (omega arith)
short_by k (suc n) h j g =
    let b = both_true (leb (get_or k (n * 72) 0) 71) (short_to k n) h in
    by_test (eqb j n)
    (λ t. let e : j ≡ n = eqb-true j n t in rw e (leb-true (get_or k (n * 72) 0) 71 b.0))
    (λ f. short_by k n b.1 j (below (eqb-false j n f) g))

pub by_short : (k : List ℕ) (n : ℕ) → ((j : ℕ) → j < n → get_or k (j * 72) 0 ≤ 71) → short_to k n ≡ true
unfolding short_to
by_short k zero h = refl
by_short k (suc n) h = rw (le-leb (get_or k (n * 72) 0) 71 (h n (omega arith))) (by_short k n (λ j g. h j (omega arith)))

short_not : (k : List ℕ) (n j : ℕ) → j < n → 71 < get_or k (j * 72) 0 → short_to k n ≡ false
unfolding short_to
short_not k zero j g h = absurd (omega arith)
short_not k (suc n) j g h =
    by_test (eqb j n)
    (λ t. let e : j ≡ n = eqb-true j n t in rw (lt-leb (get_or k (n * 72) 0) 71 (rw e at h)))
    (λ f. rw (short_not k n j (below (eqb-false j n f) g) h) (and_off (leb (get_or k (n * 72) 0) 71)))

number : (n j : ℕ) → j < n → get_or (range_with_len 0 n) j 0 ≡ j
number n j h = omega (arith, get_or-range_with_len 0 n j 0 h)

-- each of n copies is short, or one is not
pub short_all : (k : List ℕ) (n : ℕ) (r : Bool)
    → MatchBool r (AllWithin (λ i. get_or k (i * 72) 0 ≤ 71) (range_with_len 0 n) 0 (length (range_with_len 0 n)))
    ((j : ℕ) × (j < length (range_with_len 0 n)) × HoldsAt (λ i. 71 < get_or k (i * 72) 0) (range_with_len 0 n) j) → r ≡ short_to k n
short_all k n true h = sym (by_short k n (λ j g. rw (number n j g) at (h j 0 (omega arith) (omega (arith, length-range_with_len 0 n)))))
short_all k n false (j, g, h) = let b : j < n = omega (arith, length-range_with_len 0 n) in sym (short_not k n j b (rw (number n j b) at (h 0)))

-- ---- a session is begun
pub zeros : (n j : ℕ) → ◌≡◌ {A = ℕ} (get_or (replicate n 0) j 0) 0
zeros zero j = refl
zeros (suc n) zero = refl
zeros (suc n) (suc j) = zeros n j

zeros_short : (k : List ℕ) (n : ℕ) → ((j : ℕ) → get_or k j 0 ≡ 0) → short_to k n ≡ true
zeros_short k n h = by_short k n (λ j g. omega (arith, h (j * 72)))

pub begun_so : (set : Settings) (e : Entry) {s : Session} → s.settings ≡ set → s.phase ≡ starts_at e → s.at ≡ 0 → s.log ≡ no_events
    → ((j : ℕ) → get_or s.boundaries j 0 ≡ 0) → Begun set e s
unfolding state_of enters fits_by
begun_so set SmtpClient {s} c p a l z = record { is = rw (p, a, l); settings = c; sound = rw (p, a, zeros_short s.boundaries 9 z) }
begun_so set SmtpServer {s} c p a l z = record { is = rw (p, a, l); settings = c; sound = rw (p, a, zeros_short s.boundaries 9 z) }
begun_so set Pop3Server {s} c p a l z = record { is = rw (p, a, l); settings = c; sound = rw (p, a, zeros_short s.boundaries 9 z) }
begun_so set ImapClient {s} c p a l z = record { is = rw (p, a, l); settings = c; sound = rw (p, a, zeros_short s.boundaries 9 z) }

-- ---- a window shown to a session
module _ (s : Session) (ok : is_sound s ≡ true) where
  parts : (s.at ≤ limit) × (short_to s.boundaries 9 ≡ true) × (fits_by s.phase s.at ≡ true)
  parts =
      let a = both_true (leb s.at limit) (short_to s.boundaries 9 && fits_by s.phase s.at) ok in
      let b = both_true (short_to s.boundaries 9) (fits_by s.phase s.at) a.1 in
      (leb-true s.at limit a.0, b.0, b.1)

  pub within_limit : s.at ≤ limit
  within_limit = parts.0

  pub sound_ready : {w : List ℕ} → length s.boundaries ≡ 648 → Ready w s.at s.boundaries (record { phase = s.phase; taken = 0; log = s.log })
  sound_ready l =
      let z : s.at + 0 ≡ s.at = omega arith in
      record { within = omega arith; slots = record { long = l; short = short_by s.boundaries 9 parts.1 }; fits = rw z (fits_by_lem s.phase s.at parts.2) }

  module _ {w t : List ℕ} {r : Shown} where
    -- it is over: the record stays
    pub shows_over : over (state_of s.boundaries s.phase) ≡ true
        → Answers s.settings (record { phase = s.phase; taken = 0; log = s.log }) s.at s.boundaries r → Read s w t r t
    shows_over h a =
        let z : s.at + 0 ≡ s.at = omega arith in
        let e : r.session ≡ s = rw z at a.session in
        let g = takes.repeats s.settings (record_of s) t w h in
        record { is = rw e (sym g.0); settings = ap (λ (x : Session). x.settings) e; answer = a.answer t; taken = a.taken ∙ sym g.1; sound = rw e ok }

    module _ (h : over (state_of s.boundaries s.phase) ≡ false) where
      -- past the limit: 2
      pub shows_long : limit < s.at + length w → Answers s.settings (record { phase = is.Over TooLong 0; taken = 0; log = s.log }) s.at s.boundaries r → Read s w t r t
      unfolding window refused state_of fits_by
      shows_long g a =
          let z : s.at + 0 ≡ s.at = omega arith in
          let e : r.session ≡ record { settings = s.settings; phase = is.Over TooLong 0; at = s.at; log = s.log; boundaries = s.boundaries } = rw z at a.session in
          record {
            is = rw (e, h, lt-ltb limit (s.at + length w) g);
            settings = ap (λ (x : Session). x.settings) e;
            answer = a.answer t;
            taken = a.taken ∙ sym (takes.past_limit s.settings (record_of s) t w h g).1;
            sound = rw (e, le-leb s.at limit parts.0, parts.1);
          }

      -- it is read
      pub shows_read : {k u : List ℕ} {spot : Spot} → s.at + length w ≤ limit
          → Went s.settings w s.at s.boundaries t (record { phase = s.phase; taken = 0; log = s.log }) k spot u → Answers s.settings spot s.at k r → Read s w t r u
      unfolding window taken
      shows_read {k} {u} {spot} g d a =
          let z : s.at + 0 ≡ s.at = omega arith in
          let landed : spot_of s.at k u spot ≡ window s.settings (record_of s) t w = rw (h, le-ltb limit (s.at + length w) g) (rw z at d.is.is) in
          let took : taken (record_of s) (window s.settings (record_of s) t w) ≡ spot.taken = took_so landed in
          record {
            is = rw a.session landed;
            settings = ap (λ (x : Session). x.settings) a.session;
            answer = a.answer u;
            taken = a.taken ∙ sym took;
            sound = rw (
              a.session,
              le-leb (s.at + spot.taken) limit (omega (arith, d.is.within)),
              by_short k 9 (λ j l. d.slots.short j l),
            ) (by_fits spot.phase (s.at + spot.taken) d.is.fits);
          }
        where
          took_so : spot_of s.at k u spot ≡ window s.settings (record_of s) t w → taken (record_of s) (window s.settings (record_of s) t w) ≡ spot.taken
          took_so e = rw (← e) (let n : s.at + spot.taken - s.at ≡ spot.taken = omega arith in n)

-- ---- no window takes more than it shows
pub shows_within : (s : Session) (w t : List ℕ) (r : Shown) (u : List ℕ) → Shows s w t r u → r.taken ≤ length w
shows_within s w t r u h = by_sound (is_sound s) h
  where
    by_sound : (b : Bool) → ShowsIf b s w t r u → r.taken ≤ length w
    by_sound true d = omega (arith, d.taken, takes.within s.settings (record_of s) t w)
    by_sound false d = omega (arith, ap (λ (x : Shown). x.taken) d.is)
