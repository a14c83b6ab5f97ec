-- `listing::event_line` meets its contract: four words, each behind the one before it. Assumes nothing.
use Prim.Native.Nat.{◌+◌, ◌≤◌}
use native.Mathlib.Omega.{arith}
use lib.ListN.{length}
use Rattle.events.specs.Table.{event_at}
use Rattle.listing.proofs.Lines.{word_room, line_last, line_on}
use Rattle.listing.proofs.event_line.Goals.{After-word-kind, After-word-offset}
use Rattle.listing.proofs.event_line.Goals as goal

-- behind the kind there is room for three words, behind the offset for two
three-more : (c : After-word-kind) → c.word-kind.result + 63 ≤ length c.word-kind.new.out
three-more c = word_room _ _ c.word-kind.ensures 63 c.requires.0

two-more : (c : After-word-offset) → c.word-offset.result + 42 ≤ length c.word-offset.new.out
two-more c = word_room _ _ c.word-offset.ensures 42 (word_room _ _ c.word-kind.ensures 63 c.requires.0)

pub word-offset-requires : goal.word-offset-requires
word-offset-requires c = omega (arith, three-more (goal.at.word-offset-requires c).After-word-kind)

pub word-length-requires : goal.word-length-requires
word-length-requires c = omega (arith, two-more (goal.at.word-length-requires c).After-word-offset)

pub word-requires : goal.word-requires
word-requires c = word_room _ _ c.word-length.ensures 21 (two-more (goal.at.word-requires c).After-word-offset)

pub returns : goal.returns
unfolding event_at
returns c =
    line_on _ _ _ (omega (arith, c.requires.0)) c.word-kind.ensures
    (line_on _ _ _ (omega (arith, three-more (goal.at.returns c).After-word-kind)) c.word-offset.ensures
    (line_on _ _ _ (omega (arith, two-more (goal.at.returns c).After-word-offset)) c.word-length.ensures (line_last _ c.word.ensures)))
