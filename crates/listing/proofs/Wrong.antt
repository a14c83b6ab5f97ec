-- What `listing`'s contracts determine, and wrong answers: none of them meets its contract.
-- Assumes nothing.
use mathlib.Core.Path.{◌≡◌, refl, sym, ◌∙◌}
use mathlib.Core.Bool.{false}
use mathlib.Core.List.{List, [], ◌∷◌, map}
use Prim.Native.Nat.{ℕ}
use lib.ListN.{replicate}
use lib.Seq.{paste}
use Rattle.events.specs.Table.{final, event_at}
use Rattle.events.specs.declared.Outcome.TheVariants.{Done}
use Rattle.reading.proofs.Rows.{Row, ◌is-neither◌nor◌, met}
use Rattle.reading.specs.Bytes.{starts_with, same}
use Rattle.reading.specs.Text.{text}
use Rattle.listing.specs.Listing.{Pasted, spelled, word, line, event_lines, listing}

-- what is put into a text: where it ends, and the buffer
pub determined : {o t : List ℕ} {at r q : ℕ} {u v : List ℕ} → Pasted o at t r u → Pasted o at t q v → (r ≡ q) × (u ≡ v)
determined h g = (h.end ∙ sym g.end, h.is ∙ sym g.is)

abbrev rows : List Row
rows =
    -- put: nothing put; at the front
    (paste (7 ∷ 7 ∷ 7 ∷ []) 1 (5 ∷ []) 1 is-neither 7 ∷ 7 ∷ 7 ∷ [] nor 5 ∷ 7 ∷ 7 ∷ []) ∷
    -- word: backwards; without what stands behind
    (word 12 10 is-neither text "21\n" nor text "12") ∷
    -- append: place and count changed over; without the result
    (listing (final [] Done 1 0) is-neither text "0 0 1\n" nor text "1 0\n") ∷
    -- append, with an event: without its line; offset and length changed over
    (listing (final (3 ∷ 57 ∷ 4 ∷ 0 ∷ []) Done 64 1) is-neither text "0 64 1\n" nor text "3 4 57 0\n0 64 1\n") ∷
    []

pub wrong_answers : map met rows ≡ replicate 4 false
unfolding spelled word line event_at event_lines listing same starts_with
wrong_answers = refl
