-- `reading::contains_any_case` meets its contract. Assumes nothing.
use mathlib.Core.Path.{◌≡◌}
use mathlib.Core.Bool.{true, false}
use lib.ListN.{length}
use Rattle.std.proofs.Common.{refl, arith, rules, tests}
use Rattle.std.proofs.lemmas.Iterator.{cases_from_any, YieldsList-from_range}
use Rattle.reading.specs.Bytes.{stands, raised, first_place, contains}
use Rattle.reading.proofs.Places.{any_is}
use Rattle.reading.proofs.Words.{raised_length, raised_rest}
use Rattle.reading.proofs.contains_any_case.Goals as goal

pub returns : goal.returns
unfolding contains first_place stands
returns c =
    let l = c.args.l.now in
    let n = length l in
    let stood = stands (raised c.args.w.now) (raised l) in
    rw (raised_length l) (any_is stood n c.any.result
    (cases_from_any _ _ _ (λ p. stood p ≡ true) (λ p. stood p ≡ false) c.any.ensures.ran (YieldsList-from_range 0 n n refl (omega arith))
    (λ p q k. rw (raised_rest (raised c.args.w.now) l p) (search (rules, tests)))
    (λ p q k. (search rules, rw (raised_rest (raised c.args.w.now) l p) (search (rules, tests))))))
