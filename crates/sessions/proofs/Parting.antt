-- Parts and what stands behind them: walks whose answer also says whether the multipart goes on.
-- Assumes nothing.
use mathlib.Core.Path.{◌≡◌, refl, ◌∙◌}
use mathlib.Core.Bool.{true, false}
use mathlib.Core.List.{List, [], ◌∷◌}
use Rattle.std.specs.Prelude.{Option, None, Some, Result, Ok, Err}
use Prim.Native.Nat.{ℕ, ◌-◌, ◌≤◌, ◌<◌}
use native.Mathlib.Omega.{arith}
use lib.Dec.{leb}
use lib.ListN.{length, drop}
use borrow.Author.Tests.{le-leb, lt-leb}
use Rattle.events.specs.declared.Log.{Log}
use Rattle.events.specs.declared.Outcome.TheVariants.{TooDeep}
use Rattle.fields.specs.Common.{unknown, bdry_bytes, bytes_of}
use Rattle.reading.specs.declared.Span.{Span}
use Rattle.reads.specs.Clauses.{Stopped}
use Rattle.reads.specs.declared.Stop.{Stop}
use Rattle.rules.specs.Machine.{Reaction}
use Rattle.rules.specs.Mail.{after_mail, plain_mail, starts, boundary_free, begun, outermost, popped, skip}
use Rattle.rules.specs.Phases.{State, reads, head, content, then}
use Rattle.rules.specs.Sessions.{session, settle}
use Rattle.rules.specs.declared.Mail.{Mail}
use Rattle.sessions.specs.Walks.{goes, under, Walk, walk_left, Moved, Walks, Headers, Within, parted_left, MovedPart, Parts, Inner, MultiBodyIs, PartIs}
use Rattle.sessions.specs.declared.header.Headed.{Headed}
use Rattle.sessions.specs.declared.multi.Level.{Level}
use Rattle.sessions.specs.declared.multi.Parted.{Parted}
use Rattle.sessions.specs.declared.multi.Parted.TheVariants as parted
use Rattle.sessions.specs.declared.walks.Reached.{Reached}
use Rattle.sessions.proofs.Readings.{ended}
use Rattle.sessions.proofs.Steps.{further, here}

module _ {s t : List ℕ} {log : Log} {at : ℕ} {m : Mail} {b : List ℕ} {from : List (List ℕ) → Reaction State} {Asked : List (List ℕ) → Type 0} {u : List ℕ} where
  pub parted_stop : {a : Stop} (to : List (List ℕ) → ℕ → State) → ((os : List (List ℕ)) → Asked os → Walks s t log at (from os) (to os) (Err a) u)
      → Parts s t log at m b from Asked (Err a) u
  parted_stop to w = record { moved = tt; is = λ os f. (w os f).is }

  pub parted_next : {p : Reached} → at < p.at → p.at ≤ length s
      → ((os : List (List ℕ)) → Asked os → Walks s t log at (from os) (λ q. reads (head m unknown (b ∷ os))) (Ok p) u)
      → Parts s t log at m b from Asked (Ok (parted.Next p)) u
  parted_next h g w = record { moved = (h, g); is = λ os f. (w os f).is }

  pub parted_closed : {p : Reached} → at < p.at → p.at ≤ length s → ((os : List (List ℕ)) → Asked os → Walks s t log at (from os) (λ q. skip m b os q) (Ok p) u)
      → Parts s t log at m b from Asked (Ok (parted.Closed p)) u
  parted_closed h g w = record { moved = (h, g); is = λ os f. (w os f).is }

-- ---- and back: what such an answer says as a walk
module _ {s t : List ℕ} {log : Log} {at : ℕ} {m : Mail} {b : List ℕ} {from : List (List ℕ) → Reaction State} {Asked : List (List ℕ) → Type 0} {u : List ℕ}
    (os : List (List ℕ)) (f : Asked os) where
  pub as_closed : {p : Reached} → Parts s t log at m b from Asked (Ok (parted.Closed p)) u → Walks s t log at (from os) (λ q. skip m b os q) (Ok p) u
  as_closed w = record { moved = (omega (arith, w.moved.0), w.moved.1); is = w.is os f }

pub inner : {s t : List ℕ} {log : Log} {at : ℕ} {from : List (List ℕ) → Reaction State} {to : List (List ℕ) → ℕ → State} {Asked : List (List ℕ) → Type 0} {r : Walk} {u : List ℕ}
    → Moved s at r → ((os : List (List ℕ)) → Asked os → Walks s t log at (from os) (to os) r u) → Inner s t log at from to Asked r u
inner h w = record { moved = h; is = λ os f. (w os f).is }

further_part : (s : List ℕ) (i j : ℕ) (r : Result Parted Stop) → i ≤ j → MovedPart s j r → MovedPart s i r
further_part s i j (Ok (parted.Next p)) h m = (omega arith, m.1)
further_part s i j (Ok (parted.Closed p)) h m = (omega arith, m.1)
further_part s i j (Err a) h m = tt

-- where no level is left, the mail is over
popped_none : (s v : List ℕ) (m : Mail) (r : Walk) → walk_left s v (after_mail m) r ≡ walk_left s v (popped m []) r
unfolding popped
popped_none s v m (Ok p) = refl
popped_none s v m (Err a) = refl

-- an inner multipart, as the outer level sees it
abbrev pub behind : Walk → Result Parted Stop
behind (Ok p) = Ok (parted.Next p)
behind (Err a) = Err a

behind_moved : (s : List ℕ) (i j : ℕ) (r : Walk) → i < j → Moved s j r → MovedPart s i (behind r)
behind_moved s i j (Ok p) h m = (omega arith, m.1)
behind_moved s i j (Err a) h m = tt

behind_left : (s v : List ℕ) (m : Mail) (b : List ℕ) (os : List (List ℕ)) (r : Walk) → parted_left s v m b os (behind r) ≡ walk_left s v (popped m (b ∷ os)) r
unfolding popped
behind_left s v m b os (Ok p) = refl
behind_left s v m b os (Err a) = refl

-- ---- a header that begins at `at`, and what follows it
module _ (s : List ℕ) {t : List ℕ} {log : Log} {at : ℕ} {u : List ℕ} where
  module _ {k : Headed} (h : Headers s t log at (Ok k) u) where
    head_is : (m : Mail) (os : List (List ℕ)) (x : Option (List ℕ)) → bdry_bytes s k.known.boundary ≡ x
        → settle u k.to.log (under (begun m k.known.encoding x os k.to.at) k.to.at (drop k.to.at s)) ≡ settle t log (session (reads (head m unknown os)) at (drop at s))
    head_is m os x q = rw (← q) (h.is m os)

    -- no boundary, in a mail
    pub head_plain : {to : ℕ → State} {r : Walk} {v : List ℕ} (m : Mail) → k.known.boundary ≡ None
        → Walks s u k.to.log k.to.at (plain_mail m k.known.encoding k.to.at) to r v → Walks s t log at (then [] (head m unknown [])) to r v
    unfolding begun boundary_free
    head_plain {r = r} m q w = record { moved = further s at k.to.at r (omega (arith, h.moved.0)) w.moved; is = w.is ∙ head_is m [] None (rw q) }

    -- a boundary, in a mail: the first level
    pub head_multi : {r : Walk} {v : List ℕ} (m : Mail) {b : Span} → k.known.boundary ≡ Some b
        → MultiBodyIs s u k.to.log k.to.at (record { mail = m; bdry = b; outer = b; left = 7 }) r v
        → Walks s t log at (then [] (head m unknown [])) (after_mail m) r v
    unfolding begun outermost
    head_multi {r} {v} m {b} q w =
        let f : Within s (record { mail = m; bdry = b; outer = b; left = 7 }) [] = record { deep = refl; outermost = refl } in
        record { moved = further s at k.to.at r (omega (arith, h.moved.0)) w.moved; is = popped_none s v m r ∙ w.is [] f ∙ head_is m [] (Some (bytes_of s b)) (rw q) }

    -- no boundary, in a part
    pub part_plain : {r : Result Parted Stop} {v : List ℕ} {Asked : List (List ℕ) → Type 0} (m : Mail) (b : List ℕ) → k.known.boundary ≡ None
        → Parts s u k.to.log k.to.at m b (λ os. starts k.to.at (content m k.known.encoding b os)) (λ os. Unit {0}) r v
        → Parts s t log at m b (λ os. then [] (head m unknown (b ∷ os))) Asked r v
    unfolding begun boundary_free
    part_plain {r} m b q w = record {
      moved = further_part s at k.to.at r (omega (arith, h.moved.0)) w.moved;
      is = λ os f. w.is os tt ∙ head_is m (b ∷ os) None (rw q);
    }

    module _ (l : Level) {b : Span} (q : k.known.boundary ≡ Some b) where
      -- the ninth level
      pub part_ninth : {a : Stop} → l.left ≡ 0 → Stopped TooDeep k.to.at k.to.log a → PartIs s t log at l (Err a) u
      unfolding begun
      part_ninth z c = record {
        moved = tt;
        is = λ os f.
            let d : leb 8 (length (bytes_of s l.bdry ∷ os)) ≡ true = le-leb 8 (length (bytes_of s l.bdry ∷ os)) (omega (arith, f.deep)) in
            ended TooDeep k.to.at k.to.at (drop k.to.at s) u k.to.log c ∙ rw d at (head_is l.mail (bytes_of s l.bdry ∷ os) (Some (bytes_of s b)) (rw q));
      }

      -- a deeper one
      pub part_deeper : (r : Walk) {v : List ℕ} → (l.left ≡ 0 → ⊥) → MultiBodyIs s u k.to.log k.to.at (record l { bdry = b; left = l.left - 1 }) r v
          → PartIs s t log at l (behind r) v
      unfolding begun outermost
      part_deeper r {v} z w = record {
        moved = behind_moved s at k.to.at r (omega (arith, h.moved.0)) w.moved;
        is = λ os f.
            let d : leb 8 (length (bytes_of s l.bdry ∷ os)) ≡ false = lt-leb 8 (length (bytes_of s l.bdry ∷ os)) (omega (arith, f.deep)) in
            let i : Within s (record l { bdry = b; left = l.left - 1 }) (bytes_of s l.bdry ∷ os) = record { deep = omega (arith, f.deep); outermost = f.outermost } in
            behind_left s v l.mail (bytes_of s l.bdry) os r ∙ w.is (bytes_of s l.bdry ∷ os) i
            ∙ rw d at (head_is l.mail (bytes_of s l.bdry ∷ os) (Some (bytes_of s b)) (rw q));
      }

-- ---- parts of a multipart, one behind the other: from the first one's header to the present one's
pub record SoFar (s t : List ℕ) (first : Reached) (l : Level) (p : Reached) (u : List ℕ) : Type 0 where
  pub on : first.at ≤ p.at
  pub within : p.at ≤ length s
  pub long : length u ≡ length t
  pub walks : (os : List (List ℕ)) → Within s l os
      → Walks s t first.log first.at (goes (reads (head l.mail unknown (bytes_of s l.bdry ∷ os)))) (λ q. reads (head l.mail unknown (bytes_of s l.bdry ∷ os))) (Ok p) u

pub none_so_far : {s t : List ℕ} {first : Reached} {l : Level} → first.at ≤ length s → SoFar s t first l first t
none_so_far h = record { on = omega arith; within = h; long = refl; walks = λ os f. here _ h }

pub outermost_none : (b : List ℕ) → outermost b [] ≡ b
unfolding outermost
outermost_none b = refl
