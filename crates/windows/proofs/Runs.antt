-- Any machine: a run that is cut and goes on from where it stood is the run on the whole, and no byte is lost on the way.
-- Assumes nothing.
use mathlib.Core.Path.{◌≡◌, refl, sym, ap, ◌∙◌}
use mathlib.Core.List.{List, ◌++◌, append_assoc}
use Prim.Native.Nat.{ℕ, ◌+◌, ◌-◌, ◌≤◌, ◌<◌}
use native.Mathlib.Omega.{arith}
use lib.ListN.{length, drop, length-append, length-drop}
use lib.Seq.{drop-drop, drop_at}
use Rattle.reading.specs.Reading.{Got, got, short}
use Rattle.rules.proofs.Machines as machine
use Rattle.rules.proofs.Machines.{Reads}
use Rattle.rules.specs.Machine.{Reaction, Ran, stay, before, run}

-- of the states that a session comes to: bytes added behind change no piece
pub record Holds (State : Type 0) (read : State → List ℕ → Got) (react : State → ℕ → List ℕ → Reaction State) (Firm : State → Type 0) : Type 0 where
  pub holds : (st : State) (s p r t : List ℕ) → Firm st → read st s ≡ got p r → read st (s ++ t) ≡ got p (r ++ t)
  pub keeps : (st : State) (at : ℕ) (s p r : List ℕ) → Firm st → read st s ≡ got p r → Firm (react st at p).next

module _ (State : Type 0) (read : State → List ℕ → Got) (react : State → ℕ → List ℕ → Reaction State) (law : Reads State read) where
  abbrev Run : State → ℕ → List ℕ → Ran State
  Run = run State read react

  run_short : (st : State) (at : ℕ) (s : List ℕ) → read st s ≡ short → Run st at s ≡ stay st at s
  run_short = machine.run_short State read react law

  run_got : (st : State) (at : ℕ) (s p r : List ℕ) → read st s ≡ got p r → Run st at s ≡ before (react st at p).events (Run (react st at p).next (at + length p) r)
  run_got = machine.run_got State read react law

  shorter : (st : State) (s p r : List ℕ) → read st s ≡ got p r → length r < length s
  shorter = machine.shorter State read react law

  by_turns : (P : State → ℕ → List ℕ → Type 0)
      → ((st : State) (at : ℕ) (s : List ℕ) (g : Got) → read st s ≡ g → ((su : State) (to : ℕ) (r : List ℕ) → length r < length s → P su to r) → P st at s)
      → (st : State) (at : ℕ) (s : List ℕ) → P st at s
  by_turns = machine.by_turns State read react law

  -- ---- a run of some bytes, and then of what it left with more behind it
  abbrev pub onward : Ran State → List ℕ → Ran State
  onward o t = before o.events (Run o.state o.at (o.rest ++ t))

  module _ (Firm : State → Type 0) (H : Holds State read react Firm) (t : List ℕ) where
    joined_turn : (st : State) (at : ℕ) (s : List ℕ) (g : Got) → read st s ≡ g
        → ((su : State) (to : ℕ) (r : List ℕ) → length r < length s → Firm su → onward (Run su to r) t ≡ Run su to (r ++ t))
        → Firm st → onward (Run st at s) t ≡ Run st at (s ++ t)
    joined_turn st at s short e ih h = ap (λ (o : Ran State). onward o t) (run_short st at s e)
    joined_turn st at s (got p r) e ih h =
        let re = react st at p in
        let o = Run re.next (at + length p) r in
        let a : before (re.events ++ o.events) (Run o.state o.at (o.rest ++ t)) ≡ before re.events (onward o t) = rw append_assoc in
        ap (λ (o : Ran State). onward o t) (run_got st at s p r e)
        ∙ a
        ∙ ap (before re.events) (ih re.next (at + length p) r (shorter st s p r e) (H.keeps st at s p r h e))
        ∙ sym (run_got st at (s ++ t) p (r ++ t) (H.holds st s p r t h e))

    pub joined : (st : State) (at : ℕ) (s : List ℕ) → Firm st → onward (Run st at s) t ≡ Run st at (s ++ t)
    joined = by_turns (λ st at s. Firm st → onward (Run st at s) t ≡ Run st at (s ++ t)) joined_turn

  -- ---- no byte is lost: what was not taken is left
  pub record Left (st : State) (at : ℕ) (s : List ℕ) : Type 0 where
    pub on : at ≤ (Run st at s).at
    pub within : (Run st at s).at ≤ at + length s
    pub is : drop ((Run st at s).at - at) s ≡ (Run st at s).rest

  left_turn : (st : State) (at : ℕ) (s : List ℕ) (g : Got) → read st s ≡ g → ((su : State) (to : ℕ) (r : List ℕ) → length r < length s → Left su to r) → Left st at s
  left_turn st at s short e ih =
      let z : at - at ≡ 0 = omega arith in
      record { on = rw (run_short st at s e) (omega arith); within = rw (run_short st at s e) (omega arith); is = rw (run_short st at s e, z) }
  left_turn st at s (got p r) e ih =
      let i = ih (react st at p).next (at + length p) r (shorter st s p r e) in
      let to = (Run (react st at p).next (at + length p) r).at in
      let s-is = law.splits st s p r e in
      let n : to - at ≡ length p + (to - (at + length p)) = omega (arith, i.on) in
      let d : drop (length p) s ≡ r = ap (drop (length p)) s-is ∙ drop_at p r (length p) refl in
      record {
        on = rw (run_got st at s p r e) (omega (arith, i.on));
        within = rw (run_got st at s p r e) (omega (arith, i.within, ap length s-is, length-append p r));
        is = rw (run_got st at s p r e) (ap (λ (k : ℕ). drop k s) n ∙ sym (drop-drop (to - (at + length p)) (length p) s) ∙ rw d i.is);
      }

  pub left : (st : State) (at : ℕ) (s : List ℕ) → Left st at s
  left = by_turns Left left_turn

  pub all_bytes : (st : State) (at : ℕ) (s : List ℕ) → (Run st at s).at + length (Run st at s).rest ≡ at + length s
  all_bytes st at s = let l = left st at s in omega (arith, l.on, l.within, ap length l.is, length-drop ((Run st at s).at - at) s)

  -- ---- a run stops where its read is short
  stops_turn : (st : State) (at : ℕ) (s : List ℕ) (g : Got) → read st s ≡ g
      → ((su : State) (to : ℕ) (r : List ℕ) → length r < length s → read (Run su to r).state (Run su to r).rest ≡ short)
      → read (Run st at s).state (Run st at s).rest ≡ short
  stops_turn st at s short e ih = rw (run_short st at s e) e
  stops_turn st at s (got p r) e ih = rw (run_got st at s p r e) (ih (react st at p).next (at + length p) r (shorter st s p r e))

  pub run_stops : (st : State) (at : ℕ) (s : List ℕ) → read (Run st at s).state (Run st at s).rest ≡ short
  run_stops = by_turns (λ st at s. read (Run st at s).state (Run st at s).rest ≡ short) stops_turn

  -- ---- what each piece keeps of a state and its position, a run keeps
  module _ (P : State → ℕ → Type 0) (kept : (st : State) (at : ℕ) (s p r : List ℕ) → read st s ≡ got p r → P st at → P (react st at p).next (at + length p)) where
    keeps_turn : (st : State) (at : ℕ) (s : List ℕ) (g : Got) → read st s ≡ g
        → ((su : State) (to : ℕ) (r : List ℕ) → length r < length s → P su to → P (Run su to r).state (Run su to r).at)
        → P st at → P (Run st at s).state (Run st at s).at
    keeps_turn st at s short e ih h = rw (run_short st at s e) h
    keeps_turn st at s (got p r) e ih h =
        rw (run_got st at s p r e) (ih (react st at p).next (at + length p) r (shorter st s p r e) (kept st at s p r e h))

    pub run_keeps : (st : State) (at : ℕ) (s : List ℕ) → P st at → P (Run st at s).state (Run st at s).at
    run_keeps = by_turns (λ st at s. P st at → P (Run st at s).state (Run st at s).at) keeps_turn
