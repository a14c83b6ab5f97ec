-- Request W2's promises for `begin` and `show`, at the level of their contracts: any run of the code.
-- Assumes nothing.
use mathlib.Core.Path.{◌≡◌, refl, sym, ap, ◌∙◌}
use mathlib.Core.Bool.{true, false}
use mathlib.Core.List.{List, [], map, flatten}
use Prim.Native.Nat.{ℕ, ◌≤◌}
use native.Mathlib.Omega.{arith}
use lib.ListN.{length, take, drop}
use Rattle.events.specs.Events.{result_number}
use Rattle.events.specs.Table.{Final, final_of, no_events, slots}
use Rattle.events.specs.declared.Outcome.TheVariants.{LongBoundary}
use Rattle.promises.proofs.Determined.{entries}
use Rattle.promises.specs.Promises.{Exit, Owes, Untouched}
use Rattle.rules.specs.Phases.{reads}
use Rattle.rules.specs.Secrecy.{Replaced, events_of}
use Rattle.rules.specs.Sessions.{limit, settle, start_of}
use Rattle.rules.specs.Strict.{lax, session_with}
use Rattle.rules.specs.declared.Entry.{Entry}
use Rattle.rules.specs.declared.Settings.{Settings}
use Rattle.tap.specs.Tapping.{is_sound}
use Rattle.windows.proofs.Counting as counts
use Rattle.windows.proofs.Cut as cut
use Rattle.windows.proofs.Keeping as keeping
use Rattle.windows.proofs.Secrecy as secret
use Rattle.windows.proofs.Strict as strict
use Rattle.windows.specs.Stands.{InCrlf}
use Rattle.windows.specs.Traces.{answers, CutAlike}
use Rattle.windows.specs.Windows.{Record, Tap, tapped, shows_all, lastly}
use Rattle.vows.specs.Vows.{Call, exit_of, answered_of, Tapped, tap_of, Run, Runs, Last, window_events}
use Rattle.vows.proofs.Calls.{calls_shown, first_calls, calls_hold, last_told}
use Rattle.vows.proofs.Never.{never_twenty}

exit_in : Final → Exit
exit_in f = record { table = f.table; answer = record { result = f.result; place = f.place; count = f.count } }

-- the definition's tap of a session that is begun
abbrev start : Settings → Entry → List ℕ → Tap
start set e t = tapped set (start_of e) t

module _ {set : Settings} {e : Entry} {t : List ℕ} {ws : List (List ℕ)} {cs : List Call} {x : Tapped} (r : Run set e t ws cs x) where
  -- ---- any run stands where the definition's does: the session's record, the table and the untaken bytes are the definition's, and so is every answer
  -- with its table and the number of bytes taken; and the session is one
  pub as_shown : (tap_of x ≡ shows_all (start set e t) ws) × (map answered_of cs ≡ answers (start set e t) ws) × (is_sound x.session ≡ true)
  as_shown =
      let g = calls_shown r.begun.sound r.calls in
      let z : tap_of (record { session = r.session; table = t; untaken = [] }) ≡ start set e t = rw (r.begun.is, r.begun.settings) refl in
      (g.tap ∙ ap (λ (p : Tap). shows_all p ws) z, g.told ∙ ap (λ (p : Tap). answers p ws) z, g.sound)

  -- the untaken bytes are those past the session's position: what was taken and what will be shown again are all the bytes there were
  pub untaken_bytes : (x.session.at ≤ length (flatten ws)) × (x.untaken ≡ drop x.session.at (flatten ws))
  untaken_bytes =
      let z : r.session.at ≡ 0 = ap (λ (p : Record). p.at) r.begun.is in
      let g = calls_hold [] r.begun.sound r.calls (record { within = omega arith; left = rw z refl }) in
      (g.within, g.left)

  -- the first windows of a run are a run, so that what is said here of the last window and of the end is so of every window
  pub first_windows : (n : ℕ) → Runs set e t (take n ws) (take n cs)
  first_windows n = let g = first_calls n r.calls in record { end = g.end; run = record { session = r.session; begun = r.begun; calls = g.calls } }

  -- ---- the last window, whose exit is c
  module _ {c : Call} (last : Last c cs) where
    last_is : final_of c.table c.gives.answer ≡ lastly (shows_all (start set e t) ws)
    last_is = last_told ws (start set e t) last as_shown.1

    -- up to the limit, the bytes cut anyhow: unless the last answer is 12, the last exit is what the session with these settings comes to at once
    pub as_chosen : length (flatten ws) ≤ limit → (c.gives.answer.result ≡ LongBoundary → ⊥)
        → final_of c.table c.gives.answer ≡ settle t no_events (session_with set (reads (start_of e)) 0 (flatten ws))
    as_chosen within h =
        let q : c.gives.answer.result ≡ (lastly (shows_all (start set e t) ws)).result = ap (λ (f : Final). f.result) last_is in
        last_is ∙ cut.as_one_call set e t ws within (rw q at h)

    -- which without the strict setting meets the contract of the entry that reads them at once
    pub as_one_call : set.strict ≡ false → length (flatten ws) ≤ limit → (c.gives.answer.result ≡ LongBoundary → ⊥) → Owes e t (flatten ws) (exit_of c)
    as_one_call off within h =
        let q : c.gives.answer.result ≡ (lastly (shows_all (start set e t) ws)).result = ap (λ (f : Final). f.result) last_is in
        record { is = last_is ∙ cut.as_document_01 set e t off ws within (rw q at h) }

    -- so that it is any exit of that entry: table, result, place and count
    pub as_the_entry : set.strict ≡ false → length (flatten ws) ≤ limit → (c.gives.answer.result ≡ LongBoundary → ⊥)
        → (y : Exit) → Owes e t (flatten ws) y → exit_of c ≡ y
    as_the_entry off within h y owes = entries e t (flatten ws) (exit_of c) y (as_one_call off within h) owes

    -- ---- it is never answered as to no session
    pub never_no_session : result_number c.gives.answer.result ≡ 20 → ⊥
    never_no_session twenty = never_twenty set e t ws (rw (ap (λ (f : Final). f.result) last_is) at twenty)

    -- ---- demand 1: every number of the table past the events is untouched, and so is the table's length
    pub untouched : Untouched t (exit_of c)
    untouched =
        let k = keeping.keeps_all (start set e t) ws in
        record {
          long = ap (λ (f : Final). length f.table) last_is ∙ k.long;
          behind = rw (ap (λ (f : Final). f.table) last_is, ap (λ (f : Final). f.count) last_is) k.behind;
        }

    -- ---- the event count never exceeds the number of bytes shown
    pub count_bound : c.gives.answer.count ≤ length (flatten ws)
    count_bound = rw (ap (λ (f : Final). f.count) last_is) (counts.count_bound set e t ws)

    -- so that a slot per byte always suffices: refusal 10 is never given
    pub slots_suffice : length (flatten ws) ≤ slots t → result_number c.gives.answer.result ≡ 10 → ⊥
    slots_suffice g ten = counts.slots_suffice set e t ws g (rw (ap (λ (f : Final). f.result) last_is) at ten)

-- ---- two ways to cut the same bytes, up to the limit: the last exits are identical, 12 or not
pub cut_alike : {set : Settings} {e : Entry} {t : List ℕ} {ws vs : List (List ℕ)} {cs ds : List Call} {c d : Call} {x y : Tapped}
    → Run set e t ws cs x → Run set e t vs ds y → Last c cs → Last d ds → flatten vs ≡ flatten ws → length (flatten ws) ≤ limit → exit_of d ≡ exit_of c
unfolding exit_in
cut_alike {set} {e} {t} {ws} {vs} r q c d same within = ap exit_in (last_is q d ∙ cut.cut_alike set e t vs ws same within ∙ sym (last_is r c))

-- ---- a session all of whose lines end in CRLF: the last exits with any settings are those without the strict one, however the bytes are cut
pub in_crlf : {set : Settings} {e : Entry} {t : List ℕ} {ws vs : List (List ℕ)} {cs ds : List Call} {c d : Call} {x y : Tapped}
    → Run set e t ws cs x → Run lax e t vs ds y → Last c cs → Last d ds → flatten vs ≡ flatten ws → length (flatten ws) ≤ limit
    → InCrlf (start_of e) (flatten ws) → exit_of d ≡ exit_of c
unfolding exit_in
in_crlf {set} {e} {t} {ws} {vs} r q c d same within lines =
    ap exit_in (last_is q d ∙ cut.cut_alike lax e t vs ws same within ∙ sym (strict.in_crlf set e t ws within lines) ∙ sym (last_is r c))

-- ---- two runs that are shown the same windows agree in all that the caller sees, and in all that a later window depends on
pub determined : {set : Settings} {e : Entry} {t : List ℕ} {ws : List (List ℕ)} {cs ds : List Call} {x y : Tapped} → Run set e t ws cs x → Run set e t ws ds y
    → (map answered_of cs ≡ map answered_of ds) × (tap_of x ≡ tap_of y)
determined r q = let a = as_shown r in let b = as_shown q in (a.1 ∙ sym b.1, a.0 ∙ sym b.0)

-- ---- demand 3: two runs cut alike; the second's bytes are the first's, replaced as far as is permitted
module _ {set : Settings} {e : Entry} {t : List ℕ} {ws vs : List (List ℕ)} {cs ds : List Call} {x y : Tapped}
    (r : Run set e t ws cs x) (q : Run set e t vs ds y) (alike : CutAlike ws vs) where
  -- inside any events that windows list of the session: then all windows have the same result, place, count and table, and take as many bytes
  pub secrecy_of_all : Replaced (window_events set e (flatten ws)) 0 (flatten ws) (flatten vs) → map answered_of ds ≡ map answered_of cs
  unfolding window_events
  secrecy_of_all w = (as_shown q).1 ∙ secret.secrecy_by_windows set e t ws vs alike w ∙ sym (as_shown r).1

  -- and inside the events that the last exit c lists
  pub secrecy : {c : Call} → Last c cs → Replaced (events_of (final_of c.table c.gives.answer)) 0 (flatten ws) (flatten vs)
      → map answered_of ds ≡ map answered_of cs
  secrecy last w = (as_shown q).1 ∙ secret.secrecy_of_listed set e t ws vs alike (rw (last_is r last) at w) ∙ sym (as_shown r).1
