-- What each phase of a mail does with its piece, as the walks meet it.
-- Assumes nothing.
use mathlib.Core.Path.{◌≡◌, refl, sym, ap, ◌∙◌}
use mathlib.Core.Bool.{true, false}
use mathlib.Core.List.{List, [], ◌∷◌}
use mathlib.Core.Logic.{◌⊎◌, inl, inr}
use Prim.Native.Nat.{ℕ, zero, suc, ◌+◌, ◌-◌, ◌≤◌, ◌<◌}
use native.Mathlib.Omega.{arith}
use lib.ListN.{length}
use Rattle.std.specs.Prelude.{Ok, Err}
use borrow.Author.Tests.{lt-ltb, le-ltb}
use Rattle.events.specs.Events.{ev, body_start, body_line, body_stop, sized_body, part_body}
use Rattle.events.specs.declared.Encoding.{Encoding}
use Rattle.events.specs.declared.Encoding.TheVariants.{Unsaid}
use Rattle.events.specs.declared.Log.{Log}
use Rattle.events.specs.declared.Outcome.TheVariants.{BadDelimiter}
use Rattle.fields.specs.Common.{part, unknown, bytes_of}
use Rattle.reading.specs.Bytes.{starts_with, same}
use Rattle.reading.specs.Reading.{Need, two, crlf, delimiter}
use Rattle.reading.specs.declared.Span.{Span}
use Rattle.reads.specs.Clauses.{Ends, Pair, NoPair, Stopped, Full, Written, Begins}
use Rattle.reads.specs.declared.Stop.{Stop}
use Rattle.reads.specs.declared.Two.{Two}
use Rattle.reads.specs.declared.Two.TheVariants as pair
use Rattle.rules.specs.Machine.{Reaction}
use Rattle.rules.specs.Mail.{dot_line, hyphens, after_mail, rest, literal_body, whole, content_length, outermost, by_rest, skip, last_line, popped, on_text, on_literal, on_preamble, on_opened, on_content, on_between, on_skipping, on_resting}
use Rattle.rules.specs.Phases.{Phase, State, reads, wants, then, closing, head, text, literal, preamble, opened, content, between, skipping, resting}
use Rattle.rules.specs.Sessions.{reacts}
use Rattle.sessions.specs.Walks.{goes, Walk, reached, Walks, TwoIs, Lies}
use Rattle.rules.specs.declared.Mail.{Mail}
use Rattle.sessions.proofs.Readings.{bytes_long}
use Rattle.sessions.proofs.Steps as steps

-- a piece that a phase turns into a reaction
pub read_as : {s t : List ℕ} {log : Log} {to : ℕ → State} {at e : ℕ} {r : Walk} {u : List ℕ} (ph : Phase) {re : Reaction State}
    → Ends (wants ph) s at e → reacts ph at (part s at e) ≡ re → Walks s t log e re to r u → Walks s t log at (goes (reads ph)) to r u
read_as ph d q w = steps.read ph d (rw q w)

module _ {nd : Need} {s : List ℕ} {at e : ℕ} (d : Ends nd s at e) where
  pub behind : at + length (part s at e) ≡ e
  behind = omega (arith, d.long, d.on)

  -- ---- lines of a mail with no boundary
  pub text_dot : (m : Mail) (c : Encoding) → same dot_line (part s at e) ≡ true
      → reacts (text m c) at (part s at e) ≡ record { events = ev body_stop at 0 Unsaid ∷ []; next = after_mail m e }
  unfolding reacts on_text
  text_dot m c h = rw (h, behind)

  pub text_line : (m : Mail) (c : Encoding) → same dot_line (part s at e) ≡ false → reacts (text m c) at (part s at e) ≡ then (ev body_line at (e - at) c ∷ []) (text m c)
  unfolding reacts on_text
  text_line m c h = rw (h, d.long)

  -- ---- so many bytes
  pub literal_all : (c : Encoding) (n : ℕ) → reacts (literal c n) at (part s at e) ≡ then (whole sized_body c at (e - at)) closing
  unfolding reacts on_literal
  literal_all c n = rw d.long

  -- ---- a content
  pub content_all : (m : Mail) (c : Encoding) (b : List ℕ) (os : List (List ℕ)) (n : ℕ) → n ≡ e - at - (length b + 4)
      → reacts (content m c b os) at (part s at e) ≡ then (whole part_body c at n) (between m b os)
  unfolding reacts on_content content_length
  content_all m c b os n h = rw (d.long, ← h)

  -- ---- lines behind a close
  pub skipping_last : (m : Mail) (b : List ℕ) (os : List (List ℕ)) → last_line m (outermost b os) (part s at e) ≡ true
      → reacts (skipping m b os) at (part s at e) ≡ goes (popped m os e)
  unfolding reacts on_skipping
  skipping_last m b os h = rw (h, behind)

  pub skipping_on : (m : Mail) (b : List ℕ) (os : List (List ℕ)) → last_line m (outermost b os) (part s at e) ≡ false
      → reacts (skipping m b os) at (part s at e) ≡ goes (skip m b os e)
  unfolding reacts on_skipping
  skipping_on m b os h = rw (h, behind)

  pub resting_all : (m : Mail) (b : List ℕ) (os : List (List ℕ)) (n : ℕ) → reacts (resting m b os n) at (part s at e) ≡ goes (popped m os e)
  unfolding reacts on_resting
  resting_all m b os n = rw behind

-- ---- two bytes that are not CRLF
pub record NotCrlf (s : List ℕ) (at : ℕ) : Type 0 where
  pub ends : Ends two s at (at + 2)
  pub is : same crlf (part s at (at + 2)) ≡ false

pub not_crlf : {s : List ℕ} (log : Log) {at : ℕ} (x : Two) → TwoIs s log at (Ok x) → (x ≡ pair.Hyphens) ⊎ (x ≡ pair.Other) → NotCrlf s at
unfolding same starts_with
not_crlf log x p (inl e) = let h = rw e at p in record { ends = h.ends; is = rw h.is refl }
not_crlf log x p (inr e) = let h = rw e at p in record { ends = h.ends; is = h.no_crlf }

-- ---- a delimiter, and the two bytes behind it
module _ {s t : List ℕ} {log : Log} {at : ℕ} (m : Mail) (b : List ℕ) (os : List (List ℕ)) where
  -- a preamble: all up to the first delimiter
  pub preamble_on : {e : ℕ} → Ends (delimiter b) s at e → Walks s t log at (then [] (preamble m b os)) (λ q. reads (opened m b os)) (Ok (reached e log)) t
  unfolding reacts on_preamble wants
  preamble_on {e} d = steps.read (preamble m b os) d (steps.here e d.within)

  -- behind a preamble: CRLF opens the first part, anything else is refused
  pub opened_crlf : Pair s at crlf → Walks s t log at (then [] (opened m b os)) (λ q. reads (head m unknown (b ∷ os))) (Ok (reached (at + 2) log)) t
  unfolding reacts on_opened same starts_with wants
  opened_crlf p = steps.read (opened m b os) p.ends (rw p.is (steps.here (at + 2) p.ends.within))

  pub opened_other : {to : ℕ → State} {a : Stop} → NotCrlf s at → Stopped BadDelimiter at log a → Walks s t log at (then [] (opened m b os)) to (Err a) t
  unfolding reacts on_opened wants
  opened_other p w = steps.read (opened m b os) p.ends (rw p.is (steps.stop w))

  -- behind a content: CRLF opens the next part, two hyphens close the multipart, anything else is refused
  pub between_crlf : Pair s at crlf → Walks s t log at (then [] (between m b os)) (λ q. reads (head m unknown (b ∷ os))) (Ok (reached (at + 2) log)) t
  unfolding reacts on_between same starts_with wants
  between_crlf p = steps.read (between m b os) p.ends (rw p.is (steps.here (at + 2) p.ends.within))

  pub between_hyphens : Pair s at hyphens → Walks s t log at (then [] (between m b os)) (λ q. skip m b os q) (Ok (reached (at + 2) log)) t
  unfolding reacts on_between same starts_with wants
  between_hyphens p = steps.read (between m b os) p.ends (rw p.is (steps.here (at + 2) p.ends.within))

  pub between_other : {to : ℕ → State} {a : Stop} → NoPair s at → Stopped BadDelimiter at log a → Walks s t log at (then [] (between m b os)) to (Err a) t
  unfolding reacts on_between wants
  between_other p w = steps.read (between m b os) p.ends (rw (p.no_crlf, p.no_hyphens) (steps.stop w))

-- ---- a literal's body: its start, then what is left of the literal
module _ {s t : List ℕ} {log : Log} {to : ℕ → State} {at : ℕ} {u : List ℕ} (c : Encoding) where
  -- the start finds no slot
  pub literal_full : {a : Stop} (n : ℕ) → Full t log (ev body_start at 0 Unsaid ∷ []) a u → Walks s t log at (literal_body c at n) to (Err a) u
  unfolding literal_body
  literal_full zero p = steps.note_stop (ev body_stop at 0 Unsaid ∷ []) (reads closing) p
  literal_full (suc n) p = steps.note_stop [] (reads (literal c n)) p

  module _ {next : Log} {r : Walk} {v : List ℕ} where
    -- nothing is left: its stop, and the literal is closed
    pub literal_none : (n : ℕ) → n ≡ 0 → Written t log (ev body_start at 0 Unsaid ∷ []) next u
        → Walks s u next at (then (ev body_stop at 0 Unsaid ∷ []) closing) to r v → Walks s t log at (literal_body c at n) to r v
    unfolding literal_body
    literal_none n h p w = rw h (steps.note (ev body_stop at 0 Unsaid ∷ []) (reads closing) p w)

    -- something is: so many bytes are asked for
    pub literal_some : (n : ℕ) → 0 < n → Written t log (ev body_start at 0 Unsaid ∷ []) next u
        → Walks s u next at (then [] (literal c (n - 1))) to r v → Walks s t log at (literal_body c at n) to r v
    unfolding literal_body
    literal_some zero h p w = absurd (omega arith)
    literal_some (suc n) h p w = let k : suc n - 1 ≡ n = omega arith in steps.note [] (reads (literal c n)) p (rw k at w)

-- ---- which read follows behind a close
rest_if : (m : Mail) (b : List ℕ) (os : List (List ℕ)) (n : ℕ) → 0 < n → n < length (outermost b os) → by_rest m b os n ≡ reads (resting m b os (n - 1))
unfolding by_rest
rest_if m b os zero h g = absurd (omega arith)
rest_if m b os (suc n) h g = let k : suc n - 1 ≡ n = omega arith in rw (lt-ltb (suc n) (length (outermost b os)) g, k)

line_if : (m : Mail) (b : List ℕ) (os : List (List ℕ)) (n : ℕ) → (0 < n → length (outermost b os) ≤ n) → by_rest m b os n ≡ reads (skipping m b os)
unfolding by_rest
line_if m b os zero h = refl
line_if m b os (suc n) h = rw (le-ltb (suc n) (length (outermost b os)) (h (omega arith)))

module _ (m : Mail) (b : List ℕ) (os : List (List ℕ)) (at : ℕ) where
  pub skip_rest : 0 < rest m at → rest m at < length (outermost b os) → skip m b os at ≡ reads (resting m b os (rest m at - 1))
  unfolding skip
  skip_rest h g = rest_if m b os (rest m at) h g

  skip_line : (0 < rest m at → length (outermost b os) ≤ rest m at) → skip m b os at ≡ reads (skipping m b os)
  unfolding skip
  skip_line h = line_if m b os (rest m at) h

-- ---- which read follows behind a close, as the code decides it
module _ (s : List ℕ) (m : Mail) (b : List ℕ) (os : List (List ℕ)) (at : ℕ) (outer : Span) (n : ℕ) (e : n ≡ rest m at) (o : outermost b os ≡ bytes_of s outer)
    (l : Lies s outer) where
  outer_long : length (outermost b os) ≡ outer.len
  outer_long = ap length o ∙ bytes_long s outer l

  pub skip_by_rest : 0 < n → n < outer.len → goes (skip m b os at) ≡ then [] (resting m b os (n - 1))
  skip_by_rest h g = ap goes (skip_rest m b os at (omega arith) (omega (arith, outer_long)) ∙ ap (λ (k : ℕ). reads (resting m b os (k - 1))) (sym e))

  pub skip_by_line : (0 < n → outer.len ≤ n) → goes (skip m b os at) ≡ then [] (skipping m b os)
  skip_by_line h = ap goes (skip_line m b os at (λ g. let k = h (omega arith) in omega (arith, outer_long)))

-- a header that begins at i or before begins at j or before
pub begun_on : {m : Mail} {i j : ℕ} → Begins m i → i ≤ j → Begins m j
begun_on h g = record { is = λ size start q. let k = h.is size start q in omega arith }
