-- `reading::starts_with_any_case` meets its contract. Assumes nothing.
use mathlib.Core.Path.{◌≡◌, refl}
use lib.ListN.{length, get_or}
use native.Mathlib.Omega.{arith}
use Rattle.std.proofs.Common.{rules, tests}
use Rattle.std.proofs.lemmas.Iterator.{YieldsList-from_range, cases_from_all}
use Rattle.classes.specs.Classes.{upper_of}
use Rattle.reading.proofs.Words.{all_alike}
use Rattle.reading.proofs.starts_with_any_case.Goals as goal

pub returns-then-w-l : goal.returns-then-w-l
returns-then-w-l c =
    let w = c.args.w.now in
    let l = c.args.l.now in
    let n = length w in
    all_alike w l c.all.result (omega arith)
    (cases_from_all _ _ _ (λ k. upper_of (get_or l k 0) ≡ upper_of (get_or w k 0)) (λ k. upper_of (get_or l k 0) ≡ upper_of (get_or w k 0) → ⊥) c.all.ensures.ran (YieldsList-from_range 0 n n refl (omega arith))
    (λ x q h. search (rules, tests)) (λ x q h. search (rules, tests)))
