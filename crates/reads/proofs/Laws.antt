-- A read, by how far it reaches.
-- Assumes nothing.
use mathlib.Core.Path.{◌≡◌, refl, sym, ap, subst, ◌∙◌}
use mathlib.Core.Bool.{Bool, true, false, cond}
use mathlib.Core.List.{List}
use Prim.Native.Nat.{ℕ, ◌+◌, ◌-◌, ◌≤◌, ◌<◌}
use native.Mathlib.Omega.{arith}
use lib.Dec.{ltb}
use lib.ListN.{length, drop, length-take, length-drop}
use lib.Seq.{drop-drop, take-take}
use borrow.Author.Tests.{lt-ltb, le-ltb}
use Rattle.events.specs.declared.Outcome.TheVariants.{Incomplete}
use Rattle.fields.specs.Common.{part, dash_bdry}
use Rattle.reading.proofs.Ends.{clean_within, clean_take}
use Rattle.reading.proofs.Pieces.{reaches, got_reach, got_length}
use Rattle.reading.proofs.Places.{at_same}
use Rattle.reading.proofs.Words.{same_is}
use Rattle.reading.specs.Bytes.{same}
use Rattle.reading.specs.Reading.{Need, a_line, bytes, two, crlf, clean, reach, parted, fetch}
use Rattle.std.specs.Prelude.{Some, None}
use Rattle.rules.specs.Mail.{hyphens, last_line}
use Rattle.rules.specs.declared.Mail.{Mail}
use Rattle.rules.specs.declared.Mail.TheVariants.{Smtp, Pop3, Imap}
use Rattle.reads.specs.Clauses.{Ends, Stops, Cleaned, Pair, NoPair, Begins}

pub part_length : (s : List ℕ) (i j : ℕ) → j ≤ length s → length (part s i j) ≡ j - i
part_length s i j h = omega (arith, length-take (j - i) (drop i s), length-drop i s)

pub ends_at : (nd : Need) (s : List ℕ) (i e : ℕ) → i ≤ length s → reach nd (drop i s) ≡ Some e → Ends nd s i (i + e)
unfolding fetch parted
ends_at nd s i e h r =
    let q = reaches nd (drop i s) e r in
    let n : i + e - i ≡ e = omega arith in
    let w : i + e ≤ length s = omega (arith, q.within, length-drop i s) in
    record { on = omega (arith, q.moves); within = w; long = part_length s i (i + e) w; is = rw (r, n, drop-drop e i s) }

pub stops_at : (nd : Need) (s : List ℕ) (i : ℕ) → reach nd (drop i s) ≡ None → Stops nd s i Incomplete
stops_at nd s i r = record { short = r; is = refl }

-- ---- sized reads
pub sized_ends : (s : List ℕ) (i n : ℕ) → i ≤ length s → 0 < n → n ≤ length s - i → Ends (bytes (n - 1)) s i (i + n)
unfolding reach
sized_ends s i n h g l =
    let e : n - 1 + 1 ≡ n = omega arith in
    let w : ltb (n - 1) (length (drop i s)) ≡ true = lt-ltb (n - 1) (length (drop i s)) (omega (arith, length-drop i s)) in
    ends_at (bytes (n - 1)) s i n h (rw (w, e))

pub sized_stops : (s : List ℕ) (i n : ℕ) → 0 < n → length s - i < n → Stops (bytes (n - 1)) s i Incomplete
unfolding reach
sized_stops s i n g l =
    let w : ltb (n - 1) (length (drop i s)) ≡ false = le-ltb (n - 1) (length (drop i s)) (omega (arith, length-drop i s)) in
    stops_at (bytes (n - 1)) s i (rw w)

bytes_reach_if : (b : Bool) (n e : ℕ) → cond b (Some (n + 1)) None ≡ Some e → e ≡ n + 1
bytes_reach_if true n e h = sym (at_same h)
bytes_reach_if false n e h = absurd (let z : ◌≡◌ {A = ℕ} 0 1 = cc in omega arith)

-- a sized read takes just so many bytes
pub sized_to : (n : ℕ) (s : List ℕ) (i j : ℕ) → Ends (bytes n) s i j → j ≡ i + (n + 1)
unfolding reach
sized_to n s i j d =
    let g = got_reach (bytes n) (drop i s) (part s i j) (drop j s) d.is in
    let e : g.0 ≡ n + 1 = bytes_reach_if (ltb n (length (drop i s))) n g.0 g.1 in
    omega (arith, e, got_length (bytes n) (drop i s) (part s i j) (drop j s) d.is, d.long, d.on)

-- ---- a line's clean part
module _ {s : List ℕ} {at e : ℕ} where
  pub cleaned : {n : ℕ} → Ends a_line s at e → n ≡ length (clean (part s at e)) → Cleaned s at (at + n) e
  cleaned {n} d c =
      let within : at + n ≤ e = omega (arith, clean_within (part s at e), d.long, d.on) in
      let long : at + n - at ≡ n = omega arith in
      record {
        ends = d;
        from = omega arith;
        within = within;
        is = rw (long, ← (take-take n (e - at) (drop at s) (omega arith)), c) (clean_take (part s at e));
      }

  pub clean_length : {end : ℕ} → Cleaned s at end e → end - at ≡ length (clean (part s at e))
  clean_length {end} d = sym (part_length s at end (omega (arith, d.within, d.ends.within))) ∙ ap length d.is

-- ---- two bytes behind a delimiter or a literal
module _ (s : List ℕ) (i : ℕ) {e : ℕ} (d : Ends two s i e) where
  to_two : e ≡ i + 2
  to_two = sized_to 1 s i e d

  two_ends : Ends two s i (i + 2)
  two_ends = subst (Ends two s i) to_two d

  pub pair_is : {l : List ℕ} → same l (part s i e) ≡ true → Pair s i l
  pair_is {l} h = record { ends = two_ends; is = ap (part s i) (sym to_two) ∙ same_is l (part s i e) h }

  pub pair_not : same crlf (part s i e) ≡ false → same hyphens (part s i e) ≡ false → NoPair s i
  pair_not h g = record {
    ends = two_ends;
    no_crlf = ap (λ (k : ℕ). same crlf (part s i k)) (sym to_two) ∙ h;
    no_hyphens = ap (λ (k : ℕ). same hyphens (part s i k)) (sym to_two) ∙ g;
  }

-- a dash line is the last, whose ever the mail is
pub last_dash : (m : Mail) (o l : List ℕ) → dash_bdry o l ≡ true → true ≡ last_line m o l
unfolding last_line
last_dash Smtp o l h = rw h
last_dash Pop3 o l h = rw h
last_dash (Imap size start) o l h = rw h

-- of other mails nothing is asked
pub begun_smtp : {to : ℕ} → Begins Smtp to
begun_smtp = record { is = λ size start q. absurd (let z : ◌≡◌ {A = ℕ} 0 1 = cc in omega arith) }

pub begun_pop3 : {to : ℕ} → Begins Pop3 to
begun_pop3 = record { is = λ size start q. absurd (let z : ◌≡◌ {A = ℕ} 0 1 = cc in omega arith) }
