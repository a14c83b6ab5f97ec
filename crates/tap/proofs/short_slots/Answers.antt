-- `tap::short_slots` meets its contract. Assumes nothing.
use mathlib.Core.Path.{refl}
use Prim.Native.Nat.{◌*◌, ◌≤◌, ◌<◌}
use lib.ListN.{get_or}
use Rattle.std.proofs.Common.{rules, tests}
use Rattle.std.proofs.lemmas.Iterator.{YieldsList-from_range, cases_from_all}
use Rattle.tap.proofs.Sounds.{short_all}
use Rattle.tap.proofs.short_slots.Goals as goal

pub returns : goal.returns
returns c = let k = c.args.boundaries.now in
    short_all k 9 _
    (cases_from_all _ _ _ (λ i. get_or k (i * 72) 0 ≤ 71) (λ i. 71 < get_or k (i * 72) 0) c.all.ensures.ran (YieldsList-from_range 0 9 9 refl refl)
    (λ x q h. search (rules, tests)) (λ x q h. search (rules, tests)))
