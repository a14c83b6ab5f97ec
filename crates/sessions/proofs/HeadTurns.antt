-- A header's lines.
-- Assumes nothing.
use mathlib.Core.Path.{◌≡◌, refl, sym, ap, ◌∙◌}
use mathlib.Core.Bool.{Bool, true, false, cond}
use mathlib.Core.List.{List, [], ◌∷◌}
use Prim.Native.Nat.{ℕ, ◌+◌, ◌-◌, ◌≤◌}
use native.Mathlib.Omega.{arith}
use lib.ListN.{length, drop}
use Rattle.std.specs.Prelude.{Ok, Err}
use Rattle.events.specs.Events.{ev, header_line}
use Rattle.events.specs.declared.Encoding.TheVariants.{Unsaid}
use Rattle.events.specs.declared.Log.{Log}
use Rattle.fields.specs.Common.{part, Known, unknown, scanned, known_of, bdry_bytes, Inside, Says}
use Rattle.fields.specs.declared.common.Scan.{Scan}
use Rattle.reading.specs.Bytes.{same}
use Rattle.reading.specs.Reading.{a_line, crlf}
use Rattle.reads.specs.Clauses.{Ends, Full, Written}
use Rattle.reads.specs.declared.Stop.{Stop}
use Rattle.rules.specs.Machine.{Reaction, before}
use Rattle.rules.specs.Mail.{begun, on_head}
use Rattle.rules.specs.Phases.{State, reads, head, wants, then}
use Rattle.rules.specs.Sessions.{reacts, session, settle}
use Rattle.rules.specs.declared.Mail.{Mail}
use Rattle.sessions.specs.Walks.{under, reached, Short, Headers}
use Rattle.sessions.specs.declared.walks.Reached.{Reached}
use Rattle.sessions.proofs.Readings.{stays, turn, written_left, full_left}

-- what is left of the header at p, with k known, is what was left
pub record HeadAt (s t : List ℕ) (log : Log) (at : ℕ) (k : Scan) (p : Reached) (u : List ℕ) : Type 0 where
  pub on : at ≤ p.at
  pub within : p.at ≤ length s
  pub inside : Inside s k.boundary
  pub long : length u ≡ length t
  pub is : (m : Mail) (os : List (List ℕ))
      → settle u p.log (session (reads (head m (known_of s k) os)) p.at (drop p.at s)) ≡ settle t log (session (reads (head m unknown os)) at (drop at s))

-- what the blank line or another does, behind its event
abbrev turned : Mail → Known → List (List ℕ) → ℕ → List ℕ → Bool → Reaction State
turned m k os to l b = cond b (begun m k.encoding k.boundary os to) (then [] (head m (scanned k l) os))

head_turn : (s : List ℕ) (p e : ℕ) (b : Bool) (m : Mail) (k : Known) (os : List (List ℕ)) → Ends a_line s p e → same crlf (part s p e) ≡ b
    → session (reads (head m k os)) p (drop p s) ≡ before (ev header_line p (e - p) Unsaid ∷ []) (under (turned m k os e (part s p e) b) e (drop e s))
unfolding reacts on_head wants
head_turn s p e b m k os d q =
    let n : p + (e - p) ≡ e = omega (arith, d.on) in
    turn (head m k os) s p e d ∙ rw (q, d.long, n)

module _ {s t : List ℕ} {log : Log} {at : ℕ} {k : Scan} {p : Reached} {u : List ℕ} (w : HeadAt s t log at k p u) where
  pub head_short : {a : Stop} → Short a_line s p.log p.at a → Headers s t log at (Err a) u
  unfolding wants
  head_short d = record { moved = tt; is = λ m os. stays (head m (known_of s k) os) s u p.log p.at d ∙ w.is m os }

  module _ {e : ℕ} (d : Ends a_line s p.at e) where
    pub head_full : {a : Stop} {v : List ℕ} → Full u p.log (ev header_line p.at (e - p.at) Unsaid ∷ []) a v → Headers s t log at (Err a) v
    head_full c = record {
      moved = tt;
      is = λ m os.
          full_left c (under (turned m (known_of s k) os e (part s p.at e) (same crlf (part s p.at e))) e (drop e s))
          ∙ ap (settle u p.log) (sym (head_turn s p.at e (same crlf (part s p.at e)) m (known_of s k) os d refl))
          ∙ w.is m os;
    }

    module _ {next : Log} {v : List ℕ} (c : Written u p.log (ev header_line p.at (e - p.at) Unsaid ∷ []) next v) where
      pub head_blank : same crlf (part s p.at e) ≡ true → Headers s t log at (Ok (record { known = k; to = reached e next })) v
      head_blank q = record {
        moved = (omega (arith, d.on, w.on), d.within, w.inside);
        is = λ m os.
            written_left c (under (begun m k.encoding (bdry_bytes s k.boundary) os e) e (drop e s))
            ∙ ap (settle u p.log) (sym (head_turn s p.at e true m (known_of s k) os d q))
            ∙ w.is m os;
      }

      pub head_line : {j : Scan} → same crlf (part s p.at e) ≡ false → Says s (scanned (known_of s k) (part s p.at e)) j → length v ≡ length u
          → HeadAt s t log at j (reached e next) v
      head_line {j} q y l = record {
        on = omega (arith, d.on, w.on);
        within = d.within;
        inside = y.inside;
        long = l ∙ w.long;
        is = λ m os.
            ap (λ (x : Known). settle v next (session (reads (head m x os)) e (drop e s))) y.is
            ∙ written_left c (session (reads (head m (scanned (known_of s k) (part s p.at e)) os)) e (drop e s))
            ∙ ap (settle u p.log) (sym (head_turn s p.at e false m (known_of s k) os d q))
            ∙ w.is m os;
      }
