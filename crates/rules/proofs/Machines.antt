-- Any machine: its turns do not run out, and a run is one turn and then a run. `run_short` and `run_got` are all that is used of `run`; for the sessions
-- they are `session_short` and `session_got`.
-- Assumes nothing.
use mathlib.Core.Path.{◌≡◌, refl, sym, ap, ◌∙◌}
use mathlib.Core.List.{List, ◌++◌}
use Prim.Native.Nat.{ℕ, zero, suc, ◌+◌, ◌≤◌, ◌<◌}
use native.Mathlib.Omega.{arith}
use lib.ListN.{length, length-append}
use Rattle.reading.proofs.Pieces.{got_splits, got_moves}
use Rattle.reading.specs.Reading.{Got, got, short, fetch}
use Rattle.rules.specs.Machine.{Reaction, Ran, stay, before, turn, go, run}
use Rattle.rules.specs.Phases.{State, need}
use Rattle.rules.specs.Sessions.{fetches, react, session}

-- what is asked of the reads: piece and rest make up the bytes, and a piece is not empty
pub record Reads (State : Type 0) (read : State → List ℕ → Got) : Type 0 where
  pub splits : (st : State) (s p r : List ℕ) → read st s ≡ got p r → s ≡ p ++ r
  pub moves : (st : State) (s p r : List ℕ) → read st s ≡ got p r → 0 < length p

module _ (State : Type 0) (read : State → List ℕ → Got) (react : State → ℕ → List ℕ → Reaction State) (law : Reads State read) where
  abbrev Turn : (State → ℕ → List ℕ → Ran State) → State → ℕ → List ℕ → Got → Ran State
  Turn = turn State read react

  abbrev Go : ℕ → State → ℕ → List ℕ → Ran State
  Go = go State read react

  abbrev Run : State → ℕ → List ℕ → Ran State
  Run = run State read react

  -- what is left behind a piece is shorter
  pub shorter : (st : State) (s p r : List ℕ) → read st s ≡ got p r → length r < length s
  shorter st s p r e = omega (arith, ap length (law.splits st s p r e), length-append p r, law.moves st s p r e)

  -- two ways to go on that agree on all that is shorter give the same turn
  agree : (k j : State → ℕ → List ℕ → Ran State) (st : State) (at : ℕ) (s : List ℕ) (g : Got) → read st s ≡ g
      → ((su : State) (to : ℕ) (r : List ℕ) → length r < length s → k su to r ≡ j su to r)
      → Turn k st at s g ≡ Turn j st at s g
  unfolding turn
  agree k j st at s short e h = refl
  agree k j st at s (got p r) e h = ap (before (react st at p).events) (h _ _ r (shorter st s p r e))

  none : (k : State → ℕ → List ℕ → Ran State) (st : State) (at : ℕ) (s : List ℕ) (g : Got) → read st s ≡ g
      → length s ≤ 0 → Turn k st at s g ≡ stay st at s
  unfolding turn
  none k st at s short e h = refl
  none k st at s (got p r) e h = absurd (omega (arith, shorter st s p r e))

  -- how many turns are allowed does not matter where they cover the bytes
  pub enough : (f g : ℕ) (st : State) (at : ℕ) (s : List ℕ) → length s ≤ f → length s ≤ g → Go f st at s ≡ Go g st at s
  unfolding go
  enough zero zero st at s hf hg = refl
  enough zero (suc g) st at s hf hg = sym (none (Go g) st at s (read st s) refl hf)
  enough (suc f) zero st at s hf hg = none (Go f) st at s (read st s) refl hg
  enough (suc f) (suc g) st at s hf hg =
      agree (Go f) (Go g) st at s (read st s) refl (λ su to r h. enough f g su to r (omega arith) (omega arith))

  run_turn : (st : State) (at : ℕ) (s : List ℕ) → Run st at s ≡ Turn Run st at s (read st s)
  unfolding run go
  run_turn st at s =
      enough (length s) (suc (length s)) st at s (omega arith) (omega arith)
      ∙ agree (Go (length s)) Run st at s (read st s) refl (λ su to r h. enough (length s) (length r) su to r (omega arith) (omega arith))

  -- a read that needs bytes beyond the end
  pub run_short : (st : State) (at : ℕ) (s : List ℕ) → read st s ≡ short → Run st at s ≡ stay st at s
  unfolding turn
  run_short st at s e = run_turn st at s ∙ ap (Turn Run st at s) e

  -- a read that got its piece
  pub run_got : (st : State) (at : ℕ) (s p r : List ℕ) → read st s ≡ got p r
      → Run st at s ≡ before (react st at p).events (Run (react st at p).next (at + length p) r)
  unfolding turn
  run_got st at s p r e = run_turn st at s ∙ ap (Turn Run st at s) e

  -- what holds of all bytes if it holds turn by turn
  module _ (P : State → ℕ → List ℕ → Type 0) (turn : (st : State) (at : ℕ) (s : List ℕ) (g : Got) → read st s ≡ g
      → ((su : State) (to : ℕ) (r : List ℕ) → length r < length s → P su to r) → P st at s) where
    by_turns_upto : (n : ℕ) (st : State) (at : ℕ) (s : List ℕ) → length s < n → P st at s
    by_turns_upto zero st at s h = absurd (omega arith)
    by_turns_upto (suc n) st at s h = turn st at s (read st s) refl (λ su to r g. by_turns_upto n su to r (omega arith))

    pub by_turns : (st : State) (at : ℕ) (s : List ℕ) → P st at s
    by_turns st at s = by_turns_upto (suc (length s)) st at s (omega arith)

-- ---- the sessions of document 01
pub fetching : Reads State fetches
fetching = record { splits = λ st s p r e. got_splits (need st) s p r e; moves = λ st s p r e. got_moves (need st) s p r e }

pub session_shorter : (st : State) (s p r : List ℕ) → fetch (need st) s ≡ got p r → length r < length s
session_shorter = shorter State fetches react fetching

pub session_short : (st : State) (at : ℕ) (s : List ℕ) → fetch (need st) s ≡ short → session st at s ≡ stay st at s
session_short = run_short State fetches react fetching

pub session_got : (st : State) (at : ℕ) (s p r : List ℕ) → fetch (need st) s ≡ got p r
    → session st at s ≡ before (react st at p).events (session (react st at p).next (at + length p) r)
session_got = run_got State fetches react fetching
