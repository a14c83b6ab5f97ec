-- Laws of the table: what a store leaves alone, what pouring appended events comes to, and that enough slots make it the plain outcome.
-- Assumes nothing.
use mathlib.Core.Path.{◌≡◌, refl, sym, ap, ◌∙◌}
use mathlib.Core.Bool.{Bool, true, false, cond}
use mathlib.Core.List.{List, [], ◌∷◌, ◌++◌}
use Prim.Native.Nat.{ℕ, suc, ◌+◌, ◌*◌, ◌/◌, ◌≤◌, ◌<◌}
use native.Mathlib.Nat.{le_refl, zero-add}
use native.Mathlib.Numerals.{add-one, add-two, add-three}
use native.Mathlib.Omega.{arith}
use lib.ListN.{length, take, drop, set}
use lib.Seq.{length-sets, take-set-le, drop-set-lt}
use borrow.Author.Tests.{lt-ltb, le-ltb, ltb-true}
use Rattle.events.specs.Events.{width, numbers}
use Rattle.events.specs.Table.{slots, store, free, no_events, counted, Poured, all, full, pour, Final, final, finish, Puts}
use Rattle.events.specs.declared.Event.{Event}
use Rattle.std.specs.Prelude.{Some, None}
use Rattle.events.specs.declared.Log.{Log}
use Rattle.events.specs.declared.Outcome.{Outcome}

-- ---- one store
module _ (t : List ℕ) (n : ℕ) (e : Event) where
  -- as the code writes it
  pub store_is : store t n e ≡ set (set (set (set t (n * 4) e.kind) (n * 4 + 1) e.offset) (n * 4 + 2) e.length) (n * 4 + 3) e.encoding
  unfolding store
  store_is = rw (add-one, add-two, add-three)

  store_length : length (store t n e) ≡ length t
  unfolding store
  store_length = length-sets t (n * width) (numbers e)

  pub store_front : (k : ℕ) → k ≤ n * width → take k (store t n e) ≡ take k t
  unfolding store
  store_front k h =
      take-set-le k _ _ _ (omega arith) ∙ take-set-le k _ _ _ (omega arith) ∙ take-set-le k _ _ _ (omega arith) ∙ take-set-le k t _ _ h

  store_behind : (k : ℕ) → (n + 1) * width ≤ k → drop k (store t n e) ≡ drop k t
  unfolding store
  store_behind k h =
      drop-set-lt k _ _ _ (omega arith) ∙ drop-set-lt k _ _ _ (omega arith) ∙ drop-set-lt k _ _ _ (omega arith) ∙ drop-set-lt k t _ _ (omega arith)

-- ---- one event: the code's four stores where there is a slot, and nothing where there is none
module _ (t : List ℕ) (log : Log) (e : Event) where
  pub put_written : log.count < slots t
      → Puts t log e (Some (counted log))
      (set (set (set (set t (log.count * 4) e.kind) (log.count * 4 + 1) e.offset) (log.count * 4 + 2) e.length) (log.count * 4 + 3) e.encoding)
  put_written h = let i = lt-ltb log.count (slots t) h in record { answer = rw i; table = rw i (sym (store_is t log.count e)) }

  pub put_full : slots t ≤ log.count → Puts t log e None t
  put_full h = let i = le-ltb log.count (slots t) h in record { answer = rw i; table = rw i }

-- ---- appended events: the later ones are poured where the earlier ones left room
unfoldable pub further : List Event → Poured → Poured
further fs (all t log) = pour fs t log
further fs (full t q log) = full t q log

pour_append_if : (b : Bool) (x y : Poured) (u : List ℕ) (q : ℕ) (log : Log) (fs : List Event) → x ≡ further fs y
    → cond b x (full u q log) ≡ further fs (cond b y (full u q log))
unfolding further
pour_append_if true x y u q log fs h = h
pour_append_if false x y u q log fs h = refl

pub pour_append : (es fs : List Event) (t : List ℕ) (log : Log) → pour (es ++ fs) t log ≡ further fs (pour es t log)
unfolding pour further
pour_append [] fs t log = refl
pour_append (e ∷ es) fs t log = pour_append_if (free t log) _ _ t _ log fs (pour_append es fs (store t log.count e) (counted log))

-- ---- what pouring leaves alone: the numbers before the first free slot and those past the count, and the table's length
pub record Keeps (t : List ℕ) (n : ℕ) (f : Final) : Type 0 where
  pub grown : n ≤ f.count
  pub front : (k : ℕ) → k ≤ n * width → take k f.table ≡ take k t
  pub behind : drop (f.count * width) f.table ≡ drop (f.count * width) t
  pub long : length f.table ≡ length t

keeps_if : (t : List ℕ) (log : Log) (e : Event) (r : Outcome) (p q : ℕ) (b : Bool) (a : Poured)
    → Keeps (store t log.count e) (log.count + 1) (finish a r p) → Keeps t log.count (finish (cond b a (full t q log)) r p)
unfolding finish
keeps_if t log e r p q true a k =
    record {
      grown = omega (arith, k.grown);
      front = λ j h. k.front j (omega arith) ∙ store_front t log.count e j h;
      behind = k.behind ∙ store_behind t log.count e ((finish a r p).count * width) (omega (arith, k.grown));
      long = k.long ∙ store_length t log.count e;
    }
keeps_if t log e r p q false a k = record { grown = le_refl log.count; front = λ j h. refl; behind = refl; long = refl }

pub keeps : (es : List Event) (t : List ℕ) (log : Log) (r : Outcome) (p : ℕ) → Keeps t log.count (finish (pour es t log) r p)
unfolding pour finish
keeps [] t log r p = record { grown = le_refl log.count; front = λ j h. refl; behind = refl; long = refl }
keeps (e ∷ es) t log r p =
    keeps_if t log e r p _ (free t log) (pour es (store t log.count e) (counted log)) (keeps es (store t log.count e) (counted log) r p)

-- ---- with enough slots all events are written, and the outcome is the plain one
unfoldable pub fill : List Event → List ℕ → Log → List ℕ
fill [] t log = t
fill (e ∷ es) t log = fill es (store t log.count e) (counted log)

pub enough : (es : List Event) (t : List ℕ) (log : Log) → log.count + length es ≤ slots t
    → pour es t log ≡ all (fill es t log) (record { count = log.count + length es })
unfolding pour fill
enough [] t log h = let z : log.count + 0 ≡ log.count = omega arith in rw z
enough (e ∷ es) t log h =
    let i : free t log ≡ true = lt-ltb log.count (slots t) (omega arith) in
    let j : log.count + 1 + length es ≡ log.count + suc (length es) = omega arith in
    rw (i, ← j) (enough es (store t log.count e) (counted log) (rw (store_length t log.count e) (omega arith)))

pub enough_plain : (es : List Event) (t : List ℕ) (r : Outcome) (p : ℕ) → length es ≤ slots t
    → finish (pour es t no_events) r p ≡ final (fill es t no_events) r p (length es)
unfolding finish
enough_plain es t r p h = rw (enough es t no_events (omega arith), zero-add)

-- ---- the count grows by one at most for each event
pour_count_if : (b : Bool) (a : Poured) (t : List ℕ) (q : ℕ) (log : Log) (m : ℕ) (r : Outcome) (p : ℕ) → log.count ≤ m → (finish a r p).count ≤ m
    → (finish (cond b a (full t q log)) r p).count ≤ m
unfolding finish
pour_count_if true a t q log m r p h g = g
pour_count_if false a t q log m r p h g = h

pub pour_count : (es : List Event) (t : List ℕ) (log : Log) (r : Outcome) (p : ℕ) → (finish (pour es t log) r p).count ≤ log.count + length es
unfolding pour finish
pour_count [] t log r p = omega arith
pour_count (e ∷ es) t log r p =
    pour_count_if (free t log) (pour es (store t log.count e) (counted log)) t _ log (log.count + suc (length es)) r p (omega arith)
    (omega (arith, pour_count es (store t log.count e) (counted log) r p))

-- ---- every event that is counted has a slot
pour_room_if : (t : List ℕ) (log : Log) (r : Outcome) (p q : ℕ) (a : Poured) (b : Bool) → free t log ≡ b → log.count ≤ slots t
    → (log.count + 1 ≤ slots t → (finish a r p).count ≤ slots t) → (finish (cond b a (full t q log)) r p).count ≤ slots t
unfolding finish
pour_room_if t log r p q a true l h g = g (omega (arith, ltb-true log.count (slots t) l))
pour_room_if t log r p q a false l h g = h

pub pour_room : (es : List Event) (t : List ℕ) (log : Log) (r : Outcome) (p : ℕ) → log.count ≤ slots t → (finish (pour es t log) r p).count ≤ slots t
unfolding pour finish
pour_room [] t log r p h = h
pour_room (e ∷ es) t log r p h =
    pour_room_if t log r p _ (pour es (store t log.count e) (counted log)) (free t log) refl h
    (λ k.
    let s : slots (store t log.count e) ≡ slots t = ap (λ (m : ℕ). m / width) (store_length t log.count e) in
    rw s at (pour_room es (store t log.count e) (counted log) r p (rw s k)))
