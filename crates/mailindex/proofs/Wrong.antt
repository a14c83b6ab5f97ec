-- What the exports determine, and wrong answers: none of them meets the contract.
-- Assumes nothing.
use mathlib.Core.Path.{◌≡◌, refl, sym, ◌∙◌}
use mathlib.Core.Bool.{true, false}
use mathlib.Core.List.{List, [], ◌∷◌, map}
use Prim.Native.Nat.{ℕ}
use lib.ListN.{replicate}
use Rattle.events.specs.Table.{Final}
use Rattle.events.specs.declared.Outcome.TheVariants.{SmallLiteral}
use Rattle.reading.proofs.Rows.{Row, ◌is-neither◌nor◌, met}
use Rattle.reading.specs.Bytes.{starts_with, same}
use Rattle.mailindex.specs.Exports.{Answers, numbers_of, held}

-- the table and the answer's three numbers
pub determined : {f : Final} {u v n m : List ℕ} → Answers f u n → Answers f v m → (u ≡ v) × (n ≡ m)
determined h g = (h.table ∙ sym g.table, h.numbers ∙ sym g.numbers)

-- the entries: place and count changed over; no result
abbrev rows : List Row
rows = (numbers_of (record { result = SmallLiteral; place = 25; count = 3 }) is-neither 7 ∷ 3 ∷ 25 ∷ [] nor 0 ∷ 25 ∷ 3 ∷ []) ∷ []

pub wrong_answers : (map met rows ≡ replicate 1 false) × (held 0 ∷ held 1 ∷ held 2 ∷ [] ≡ false ∷ true ∷ true ∷ [])
unfolding same starts_with
wrong_answers = (refl, refl)
