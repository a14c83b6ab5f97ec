-- `listing::last_line` meets its contract: three words, each behind the one before it. Assumes nothing.
use Prim.Native.Nat.{◌+◌, ◌≤◌}
use native.Mathlib.Omega.{arith}
use lib.ListN.{length}
use Rattle.listing.proofs.Lines.{word_room, line_last, line_on}
use Rattle.listing.proofs.last_line.Goals.{After-word-result}
use Rattle.listing.proofs.last_line.Goals as goal

-- behind the result there is room for two words
two-more : (c : After-word-result) → c.word-result.result + 42 ≤ length c.word-result.new.out
two-more c = word_room _ _ c.word-result.ensures 42 c.requires

pub word-place-requires : goal.word-place-requires
word-place-requires c = omega (arith, two-more (goal.at.word-place-requires c).After-word-result)

pub word-requires : goal.word-requires
word-requires c = word_room _ _ c.word-place.ensures 21 (two-more (goal.at.word-requires c).After-word-result)

pub returns : goal.returns
returns c = line_on _ _ _ (omega (arith, c.requires)) (rw c.result_number-number.ensures at c.word-result.ensures)
    (line_on _ _ _ (omega (arith, two-more (goal.at.returns c).After-word-result)) c.word-place.ensures (line_last _ c.word.ensures))
