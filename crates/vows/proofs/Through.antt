-- A run through C is a run of `begin` and `show`: what is promised of those holds of it.
-- Assumes nothing.
use mathlib.Core.Path.{◌≡◌, refl, sym, ap, subst, ◌∙◌}
use mathlib.Core.List.{List, [], ◌∷◌, ◌++◌, map}
use Prim.Native.Nat.{ℕ}
use lib.ListN.{get_or, drop}
use Rattle.mailindex.proofs.Held.{shown_to}
use Rattle.mailindex.specs.Exports.{Holds}
use Rattle.rules.specs.declared.Entry.{Entry}
use Rattle.rules.specs.declared.Settings.{Settings}
use Rattle.tap.specs.declared.Session.{Session}
use Rattle.vows.specs.Through.{Held, Exit, CallsFrom, none, call, RunsThrough, Seen, seen, seen_of, SameRun}
use Rattle.vows.specs.Vows as vows
use Rattle.vows.specs.Vows.{Call, Tapped, Calls}

abbrev tapped : Session → Held → Tapped
tapped s x = record { session = s; table = x.table; untaken = x.untaken }

record SameCalls (x : Tapped) (ws : List (List ℕ)) (gs : List Exit) : Type 0 where
  calls : List Call
  end : Tapped
  are : Calls x ws calls end
  same : map seen_of calls ≡ map seen gs

-- what is held is the session, window upon window
same_calls : (s : Session) {x : Held} {ws : List (List ℕ)} {gs : List Exit} → Holds s x.numbers x.copies → CallsFrom x ws gs → SameCalls (tapped s x) ws gs
same_calls s {x} h none = record { calls = []; end = tapped s x; are = vows.none; same = refl }
same_calls s {x} h (call {ws = ws} {gs = gs} w g shows more) =
    let r = shows.shown in
    let c : Call = record { gives = r; table = g.table } in
    let took : get_or g.answer 3 0 ≡ r.taken = ap (λ (n : List ℕ). get_or n 3 0) shows.answer in
    let rest = subst (λ (n : ℕ). SameCalls (record { session = r.session; table = g.table; untaken = drop n (x.untaken ++ w) }) ws gs)
    took (same_calls r.session shows.holds more) in
    record {
      calls = c ∷ rest.calls;
      end = rest.end;
      are = vows.call w c (shown_to s h shows) rest.are;
      same =
          ap (λ (n : List ℕ). record { answer = n; table = g.table } ∷ map seen_of rest.calls) (sym shows.answer)
          ∙ ap (λ (l : List Seen). seen g ∷ l) rest.same;
    }

pub through_c : {set : Settings} {e : Entry} {t : List ℕ} {ws : List (List ℕ)} {gs : List Exit} → RunsThrough set e t ws gs → SameRun set e t ws gs
through_c r =
    let b = r.begun in
    let same = same_calls b.session b.holds r.calls in
    record {
      calls = same.calls;
      run = record { end = same.end; run = record { session = b.session; begun = b.begun; calls = same.are } };
      same = same.same;
    }
