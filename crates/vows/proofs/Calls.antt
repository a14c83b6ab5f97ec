-- Calls of `show` one after another, each of which meets its contract: they go where the definition's windows go.
-- Assumes nothing.
use mathlib.Core.Path.{◌≡◌, refl, sym, ap, ◌∙◌}
use mathlib.Core.Bool.{true}
use mathlib.Core.List.{List, [], ◌∷◌, ◌++◌, map, append-nil, append_assoc, flatten}
use Prim.Native.Nat.{ℕ, zero, suc, ◌+◌, ◌-◌, ◌≤◌}
use native.Mathlib.Omega.{arith}
use lib.ListN.{length, take, drop, length-drop, length-append}
use lib.Seq.{drop-append-le, drop-drop}
use Rattle.events.specs.Table.{final_of}
use Rattle.tap.specs.Tapping.{is_sound, record_of, Read, Shows}
use Rattle.windows.specs.Windows as windows
use Rattle.windows.specs.Traces.{Answered, answered, answers}
use Rattle.windows.specs.Windows.{said, window, taken, Tap, shows, shows_all, lastly}
use Rattle.vows.specs.Vows.{Call, answered_of, Tapped, tap_of, window_of, after, Calls, none, call, Last, lone, later}
use Rattle.vows.proofs.Takes.{read, takes_within, moves}

-- ---- a call does what the definition says of its window
called : (x : Tapped) (w : List ℕ) (c : Call) → Read x.session (window_of x w) x.table c.gives c.table
    → (tap_of (after x w c) ≡ shows (tap_of x) w)
    × (answered_of c ≡ answered (record_of x.session) (window x.session.settings (record_of x.session) x.table (window_of x w)))
unfolding shows
called x w c d =
    let v = window_of x w in
    let n = taken (record_of x.session) (window x.session.settings (record_of x.session) x.table v) in (
      rw (d.taken, d.settings)
          (ap {B = Tap} (λ (g : windows.Shown). record { settings = x.session.settings; session = g.next; table = g.table; untaken = drop n v }) d.is),
      rw (d.answer, d.taken) (ap {B = Answered} (λ (g : windows.Shown). record { answer = said g.next g.table; took = n }) d.is),
    )

-- ---- calls one after another, from x to y
pub record AsShown (x y : Tapped) (ws : List (List ℕ)) (cs : List Call) : Type 0 where
  pub tap : tap_of y ≡ shows_all (tap_of x) ws
  pub told : map answered_of cs ≡ answers (tap_of x) ws
  pub sound : is_sound y.session ≡ true

pub calls_shown : {x y : Tapped} {ws : List (List ℕ)} {cs : List Call} → is_sound x.session ≡ true → Calls x ws cs y → AsShown x y ws cs
unfolding shows_all answers
calls_shown ok none = record { tap = refl; told = refl; sound = ok }
calls_shown {x} {y} ok (call {ws = ws} {cs = cs} w c h more) =
    let d = read x.session (window_of x w) x.table c.gives c.table ok h in
    let one = called x w c d in
    let rest = calls_shown d.sound more in
    record {
      tap = rest.tap ∙ ap (λ (p : Tap). shows_all p ws) one.0;
      told = ap (λ (behind : List Answered). answered_of c ∷ behind) (rest.told ∙ ap (λ (p : Tap). answers p ws) one.0)
          ∙ ap (λ (a : Answered). a ∷ answers (shows (tap_of x) w) ws) one.1;
      sound = rest.sound;
    }

-- ---- the first calls of calls
pub record Through (x : Tapped) (ws : List (List ℕ)) (cs : List Call) : Type 0 where
  pub end : Tapped
  pub calls : Calls x ws cs end

one_more : {x : Tapped} {ws : List (List ℕ)} {cs : List Call} (w : List ℕ) (c : Call)
    → Shows x.session (window_of x w) x.table c.gives c.table → Through (after x w c) ws cs → Through x (w ∷ ws) (c ∷ cs)
one_more w c h more = record { end = more.end; calls = call w c h more.calls }

pub first_calls : (n : ℕ) {x y : Tapped} {ws : List (List ℕ)} {cs : List Call} → Calls x ws cs y → Through x (take n ws) (take n cs)
first_calls zero {x} h = record { end = x; calls = none }
first_calls (suc n) {x} none = record { end = x; calls = none }
first_calls (suc n) (call w c h more) = one_more w c h (first_calls n more)

-- ---- the bytes: s are those shown so far, and those past the session's position are untaken
pub record Holds (s : List ℕ) (x : Tapped) : Type 0 where
  pub within : x.session.at ≤ length s
  pub left : x.untaken ≡ drop x.session.at s

holds_on : (s w : List ℕ) (x : Tapped) (c : Call) → x.session.at ≤ length s → x.untaken ≡ drop x.session.at s
    → c.gives.taken ≤ length (window_of x w) → c.gives.session.at ≡ x.session.at + c.gives.taken → Holds (s ++ w) (after x w c)
holds_on s w x c within left few moved =
    let at = x.session.at in
    let k = c.gives.taken in
    let v : window_of x w ≡ drop at (s ++ w) = ap (λ (u : List ℕ). u ++ w) left ∙ sym (drop-append-le at s w within) in
    let n : length (window_of x w) ≡ length (s ++ w) - at = ap length v ∙ length-drop at (s ++ w) in
    let m : at ≤ length (s ++ w) = omega (arith, length-append s w) in
    record {
      within = rw moved (omega (arith, few, n, m));
      left = ap (drop k) v ∙ drop-drop k at (s ++ w) ∙ ap (λ (j : ℕ). drop j (s ++ w)) (sym moved);
    }

pub calls_hold : (s : List ℕ) {x y : Tapped} {ws : List (List ℕ)} {cs : List Call} → is_sound x.session ≡ true → Calls x ws cs y → Holds s x
    → Holds (s ++ flatten ws) y
unfolding flatten
calls_hold s ok none i = rw append-nil i
calls_hold s {x} {y} ok (call {ws = ws} w c h more) i =
    let d = read x.session (window_of x w) x.table c.gives c.table ok h in
    let few = takes_within x.session (window_of x w) x.table c.gives c.table ok h in
    let moved = moves x.session (window_of x w) x.table c.gives c.table ok h in
    let j = calls_hold (s ++ w) d.sound more (holds_on s w x c i.within i.left few moved) in
    rw (append_assoc s w (flatten ws)) at j

-- the last exit's answer is the definition's
pub last_told : (ws : List (List ℕ)) (p : Tap) {cs : List Call} {c : Call} → Last c cs → map answered_of cs ≡ answers p ws
    → final_of c.table c.gives.answer ≡ lastly (shows_all p ws)
unfolding shows_all answers shows
last_told [] p lone h = cc
last_told [] p (later l) h = cc
last_told (w ∷ []) p {c = c} lone h =
    let e : answered_of c ≡ answered p.session (window p.settings p.session p.table (p.untaken ++ w)) = cc in
    ap (λ (a : Answered). a.answer) e
last_told (w ∷ (v ∷ ws)) p lone h = cc
last_told (w ∷ ws) p (later l) h = last_told ws (shows p w) l cc
