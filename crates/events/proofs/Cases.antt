-- The table, run: two events into tables of every size up to two slots and a bit; what lies behind stays.
-- Assumes nothing.
use mathlib.Core.Path.{◌≡◌, refl}
use mathlib.Core.List.{[], ◌∷◌}
use Prim.Native.Nat.{ℕ}
use lib.ListN.{replicate}
use Rattle.events.specs.Events.{ev, body_start, body_line}
use Rattle.events.specs.Table.{Final, final, no_events, store, pour, finish}
use Rattle.events.specs.declared.Encoding.TheVariants.{Unsaid, Base64}
use Rattle.events.specs.declared.Outcome.TheVariants.{Done, TableFull}

unfoldable pub into : ℕ → Final
into n = finish (pour (ev body_start 57 0 Unsaid ∷ ev body_line 57 4 Base64 ∷ []) (replicate n 99) no_events) Done 64

pub two-events :
    into 0 ∷ into 3 ∷ into 4 ∷ into 7 ∷ into 8 ∷ into 9 ∷ []
    ≡ final [] TableFull 57 0
    ∷ final (99 ∷ 99 ∷ 99 ∷ []) TableFull 57 0
    ∷ final (2 ∷ 57 ∷ 0 ∷ 0 ∷ []) TableFull 57 1
    ∷ final (2 ∷ 57 ∷ 0 ∷ 0 ∷ 99 ∷ 99 ∷ 99 ∷ []) TableFull 57 1
    ∷ final (2 ∷ 57 ∷ 0 ∷ 0 ∷ 3 ∷ 57 ∷ 4 ∷ 5 ∷ []) Done 64 2
    ∷ final (2 ∷ 57 ∷ 0 ∷ 0 ∷ 3 ∷ 57 ∷ 4 ∷ 5 ∷ 99 ∷ []) Done 64 2
    ∷ []
unfolding into store pour finish
two-events = refl
