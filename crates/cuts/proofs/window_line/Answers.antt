-- `cuts::window_line` is safe: four words fit. Assumes nothing.
use Prim.Native.Nat.{◌+◌, ◌≤◌}
use native.Mathlib.Omega.{arith}
use lib.ListN.{length}
use Rattle.listing.proofs.Lines.{word_room}
use Rattle.cuts.proofs.window_line.Goals.{After-word-next, After-word-place, After-word-then}
use Rattle.cuts.proofs.window_line.Goals as goal

-- behind a word there is room for those that follow
behind-one : (c : After-word-place) → c.word-place.result + 63 ≤ length c.word-place.new.out
behind-one c = word_room _ _ c.word-place.ensures 63 c.requires

behind-two : (c : After-word-next) → c.word-next.result + 42 ≤ length c.word-next.new.out
behind-two c = word_room _ _ c.word-next.ensures 42 (word_room _ _ c.word-place.ensures 63 c.requires)

behind-three : (c : After-word-then) → c.word-then.result + 21 ≤ length c.word-then.new.out
behind-three c = word_room _ _ c.word-then.ensures 21 (word_room _ _ c.word-next.ensures 42 (word_room _ _ c.word-place.ensures 63 c.requires))

pub word-next-requires : goal.word-next-requires
word-next-requires c = omega (arith, behind-one (goal.at.word-next-requires c).After-word-place)

pub word-then-requires : goal.word-then-requires
word-then-requires c = omega (arith, behind-two (goal.at.word-then-requires c).After-word-next)

pub word-requires : goal.word-requires
word-requires c = omega (arith, behind-three (goal.at.word-requires c).After-word-then)

pub returns : goal.returns
returns c = omega (arith, word_room _ _ c.word.ensures 0 (behind-three (goal.at.returns c).After-word-then))
