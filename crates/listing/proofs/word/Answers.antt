-- `listing::word` meets its contract: the digits are put, and a byte behind them. Assumes nothing.
use native.Mathlib.Nat.{le_of_lt}
use native.Mathlib.Omega.{arith}
use Rattle.listing.proofs.Spelled.{Spelt, digits_room, word_end, word_put}
use Rattle.listing.proofs.word.Goals.{After-decimal-k}
use Rattle.listing.proofs.word.Goals as goal

-- behind `decimal` the digits stand in their array
spelt : (c : After-decimal-k) →
    let a = c.args in
    Spelt a.out.now a.at a.n c.decimal-k.result c.decimal-k.new.out
spelt c =
    let ensures = c.decimal-k.ensures in
    record { room = c.requires; small = omega arith; within = ensures.in_bounds.0; fewest = ensures.len; is = ensures.digits }

pub put-end-requires : goal.put-end-requires
put-end-requires c = le_of_lt (digits_room (spelt (goal.at.put-end-requires c).After-decimal-k))

-- ---- the byte behind them
pub bounds-out-end : goal.bounds-out-end
bounds-out-end c = word_end (spelt (goal.at.bounds-out-end c).After-decimal-k) c.put-end.ensures

pub overflow_add-result : goal.overflow_add-result
overflow_add-result c = omega (arith, word_end (spelt (goal.at.overflow_add-result c).After-decimal-k) c.put-end.ensures)

pub returns : goal.returns
returns c = word_put (spelt (goal.at.returns c).After-decimal-k) c.put-end.ensures _
