-- The events that an answer's table holds are the first of the session's events.
-- Assumes nothing.
use mathlib.Core.Path.{◌≡◌, refl, sym, ap, ◌∙◌}
use mathlib.Core.Bool.{Bool, true, false, cond}
use mathlib.Core.List.{List, [], ◌∷◌, ◌++◌, append-nil, append_assoc}
use Prim.Native.Nat.{ℕ, zero, suc, ◌+◌, ◌*◌, ◌-◌, ◌≤◌, ◌<◌}
use native.Mathlib.Nat.{zero-add}
use native.Mathlib.Numerals.{add-one}
use native.Mathlib.Omega.{arith}
use lib.ListN.{length, take, set, get_or, length-set}
use lib.Seq.{get_or-take, get_or-set_same, get_or-set_other}
use borrow.Author.Tests.{ltb-true}
use Rattle.events.proofs.Laws.{store_is, store_front, keeps}
use Rattle.events.specs.Table.{slots, store, free, no_events, counted, event_at, Poured, full, pour, Final, finish}
use Rattle.events.specs.declared.Event.{Event}
use Rattle.events.specs.declared.Log.{Log}
use Rattle.events.specs.declared.Outcome.{Outcome}
use Rattle.rules.specs.Secrecy.{events_in, events_of}

-- ---- one store: its slot holds the event, the slots before it what they held
module _ (t : List ℕ) (n : ℕ) (e : Event) where
  number_kept : (j : ℕ) → j < n * 4 → get_or (store t n e) j 0 ≡ get_or t j 0
  number_kept j h =
      sym (get_or-take (n * 4) (store t n e) j 0 h) ∙ ap (λ (l : List ℕ). get_or l j 0) (store_front t n e (n * 4) (omega arith)) ∙ get_or-take (n * 4) t j 0 h

  event_kept : (i : ℕ) → i < n → event_at (store t n e) i ≡ event_at t i
  unfolding event_at
  event_kept i h =
      rw (number_kept (i * 4) (omega arith), number_kept (i * 4 + 1) (omega arith), number_kept (i * 4 + 2) (omega arith), number_kept (i * 4 + 3) (omega arith)) refl

  event_stored : n < slots t → event_at (store t n e) n ≡ e
  unfolding event_at
  event_stored h =
      let i = n * 4 in
      let a = set t i e.kind in
      let b = set a (i + 1) e.offset in
      let c = set b (i + 2) e.length in
      let room : i + 4 ≤ length t = omega arith in
      let la : length a ≡ length t = length-set t i e.kind in
      let lb : length b ≡ length t = length-set a (i + 1) e.offset ∙ la in
      let lc : length c ≡ length t = length-set b (i + 2) e.length ∙ lb in
      let k0 =
      get_or-set_other c (i + 3) i e.encoding 0 (λ z. omega arith)
      ∙ get_or-set_other b (i + 2) i e.length 0 (λ z. omega arith)
      ∙ get_or-set_other a (i + 1) i e.offset 0 (λ z. omega arith)
      ∙ get_or-set_same t i e.kind 0 (omega arith) in
      let k1 =
      get_or-set_other c (i + 3) (i + 1) e.encoding 0 (λ z. omega arith)
      ∙ get_or-set_other b (i + 2) (i + 1) e.length 0 (λ z. omega arith)
      ∙ get_or-set_same a (i + 1) e.offset 0 (omega arith) in
      let k2 = get_or-set_other c (i + 3) (i + 2) e.encoding 0 (λ z. omega arith) ∙ get_or-set_same b (i + 2) e.length 0 (omega arith) in
      let k3 = get_or-set_same c (i + 3) e.encoding 0 (omega arith) in
      rw (store_is t n e, k0, k1, k2, k3) refl

  events_kept : (i m : ℕ) → i + m ≤ n → events_in (store t n e) i m ≡ events_in t i m
  unfolding events_in
  events_kept i zero h = refl
  events_kept i (suc m) h = rw (event_kept i (omega arith), events_kept (i + 1) m (omega arith)) refl

events_snoc : (t : List ℕ) (i n : ℕ) → events_in t i (n + 1) ≡ events_in t i n ++ (event_at t (i + n) ∷ [])
unfolding events_in
events_snoc t i n = rw add-one (snoc i n)
  where
    snoc : (i n : ℕ) → events_in t i (suc n) ≡ events_in t i n ++ (event_at t (i + n) ∷ [])
    snoc i zero = let z : i + 0 ≡ i = omega arith in rw z refl
    snoc i (suc n) = let z : i + suc n ≡ i + 1 + n = omega arith in rw z (ap (λ (l : List Event). event_at t i ∷ l) (snoc (i + 1) n))

-- ---- pouring
abbrev Gives : List ℕ → ℕ → List Event → Final → Type 0
Gives t n es f = events_in f.table 0 f.count ≡ events_in t 0 n ++ take (f.count - n) es

gives_none : (t : List ℕ) (n : ℕ) (es : List Event) → events_in t 0 n ≡ events_in t 0 n ++ take (n - n) es
gives_none t n es = let z : n - n ≡ 0 = omega arith in rw z (sym (append-nil (events_in t 0 n)))

gives_on : (t : List ℕ) (n : ℕ) (e : Event) (es : List Event) (f : Final) → n < slots t → n + 1 ≤ f.count → Gives (store t n e) (n + 1) es f → Gives t n (e ∷ es) f
gives_on t n e es f h g w =
    let z : f.count - n ≡ suc (f.count - (n + 1)) = omega arith in
    let y : events_in (store t n e) 0 (n + 1) ≡ events_in t 0 n ++ (e ∷ []) =
    events_snoc (store t n e) 0 n ∙ rw (zero-add, events_kept t n e 0 n (omega arith), event_stored t n e h) refl in
    w ∙ rw (y, z) (append_assoc (events_in t 0 n) (e ∷ []) (take (f.count - (n + 1)) es))

gives_if : (t : List ℕ) (log : Log) (q : ℕ) (e : Event) (es : List Event) (r : Outcome) (p : ℕ) (b : Bool) (x : Poured) → free t log ≡ b
    → log.count + 1 ≤ (finish x r p).count → Gives (store t log.count e) (log.count + 1) es (finish x r p)
    → Gives t log.count (e ∷ es) (finish (cond b x (full t q log)) r p)
unfolding finish
gives_if t log q e es r p true x h g w = gives_on t log.count e es (finish x r p) (ltb-true log.count (slots t) h) g w
gives_if t log q e es r p false x h g w = gives_none t log.count (e ∷ es)

pour_gives : (es : List Event) (t : List ℕ) (log : Log) (r : Outcome) (p : ℕ) → Gives t log.count es (finish (pour es t log) r p)
unfolding pour finish
pour_gives [] t log r p = gives_none t log.count []
pour_gives (e ∷ es) t log r p =
    gives_if t log _ e es r p (free t log) (pour es (store t log.count e) (counted log)) refl
    (keeps es (store t log.count e) (counted log) r p).grown (pour_gives es (store t log.count e) (counted log) r p)

module _ (es : List Event) (t : List ℕ) (r : Outcome) (p : ℕ) where
  abbrev into : Final
  into = finish (pour es t no_events) r p

  pub poured_given : events_of into ≡ take into.count es
  unfolding events_of events_in
  poured_given = let z : into.count - 0 ≡ into.count = omega arith in rw z at (pour_gives es t no_events r p)
