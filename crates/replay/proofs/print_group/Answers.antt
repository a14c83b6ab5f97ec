-- `replay::print_group` is safe: the line fits. Assumes nothing.
use Rattle.std.proofs.Common.{◌+◌, ◌≤◌, length, arith}
use Rattle.listing.proofs.Lines.{word_room}
use Rattle.replay.proofs.print_group.Goals.{After-word-end, After-word-result}
use Rattle.replay.proofs.print_group.Goals as goal

-- behind the result there is room for another word, and behind that one for the line
word_fits : (c : After-word-result) → c.word-result.result + 21 ≤ length c.word-result.new.out
word_fits c = word_room _ _ c.word-result.ensures 21 (omega arith)

pub word-end-requires : goal.word-end-requires
word-end-requires c = word_fits (goal.at.word-end-requires c).After-word-result
