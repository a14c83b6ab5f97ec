-- `cases::sides_of` meets its contract, by whether the record is as long as it says. Assumes nothing.
use borrow.Author.Tests.{lt-ltb, le-ltb}
use Rattle.cases.specs.Cases.{sides_of, mark}
use Rattle.cases.proofs.sides_of.Goals as goal

-- it does not even say
pub returns-then-b-lt-CLIENT : goal.returns-then-b-lt-CLIENT
unfolding sides_of
returns-then-b-lt-CLIENT c = rw (lt-ltb _ _ c.if-b-lt-CLIENT.true)

-- the client's payload runs over its end
pub returns-then-b-length : goal.returns-then-b-length
unfolding sides_of
returns-then-b-length c = rw (le-ltb _ _ c.if-b-lt-CLIENT.false, ← c.four-length.ensures, lt-ltb _ _ c.if-b-length.true)

-- it is
pub returns : goal.returns
unfolding sides_of mark
returns c = rw (
  le-ltb _ _ c.if-b-lt-CLIENT.false,
  ← c.four-length.ensures,
  ← c.four.ensures,
  ← c.two.ensures.0,
  ← c.two-2.ensures.0,
  le-ltb _ _ c.if-b-length.false,
)
