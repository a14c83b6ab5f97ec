-- What demand 3 compares: what the caller sees of windows one after another, and runs cut alike.
-- Assumes nothing.
use Rattle.std.specs.Prelude.{◌≡◌, List, [], ◌∷◌, ◌++◌, ℕ, length}
use Rattle.events.specs.Table.{Final}
use Rattle.windows.specs.Windows.{Record, said, Shown, window, taken, Tap, shows}

-- of each window what was said then, with the table, and how many bytes it took
pub record Answered : Type 0 where
  pub answer : Final
  pub took : ℕ

abbrev pub answered : Record → Shown → Answered
answered r g = record { answer = said g.next g.table; took = taken r g }

unfoldable pub answers : Tap → List (List ℕ) → List Answered
answers x [] = []
answers x (w ∷ ws) = answered x.session (window x.settings x.session x.table (x.untaken ++ w)) ∷ answers (shows x w) ws

-- cut alike: as many windows, and each as long
unfoldable pub CutAlike : List (List ℕ) → List (List ℕ) → Type 0
CutAlike [] [] = Unit {0}
CutAlike [] (v ∷ vs) = ⊥
CutAlike (w ∷ ws) [] = ⊥
CutAlike (w ∷ ws) (v ∷ vs) = (length v ≡ length w) × CutAlike ws vs
