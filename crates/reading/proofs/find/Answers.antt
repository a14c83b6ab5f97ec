-- `reading::find` meets its contract. Assumes nothing.
use mathlib.Core.Path.{◌≡◌}
use mathlib.Core.Bool.{true, false}
use Rattle.std.proofs.Common.{rules, tests}
use Rattle.std.proofs.lemmas.Iterator.{first_from_Range}
use Rattle.reading.specs.Bytes.{stands}
use Rattle.reading.proofs.Places.{found_is, sought_none_yet}
use Rattle.reading.proofs.Words.{rest_is}
use Rattle.reading.proofs.find.Goals as goal

pub returns : goal.returns
unfolding stands
returns c =
    let stood = stands c.args.w.now c.args.l.now in
    found_is stood c.find.result (sought_none_yet _ _) (first_from_Range _ _ _ _ (λ p. stood p ≡ true) (λ p. stood p ≡ false) c.find.ensures.ran
    (λ p q k. rw (← rest_is c.args.l.now p) (search (rules, tests)))
    (λ p q k. (search rules, rw (← rest_is c.args.l.now p) (search (rules, tests)))))
