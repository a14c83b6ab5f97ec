-- `tap::answer_of` meets its contract, by the phase. Assumes nothing.
use mathlib.Core.Logic.{inl, inr}
use Rattle.phases.specs.Phasing.{state_of}
use Rattle.rules.specs.Sessions.{result_of, place_of}
use Rattle.windows.specs.Stands.{stand_result, stand_place}
use Rattle.windows.specs.Windows.{said}
use Rattle.tap.proofs.Arms.{waits_here}
use Rattle.tap.proofs.answer_of.Goals as goal

-- the session is over
pub returns-in-Over : goal.returns-in-Over
unfolding state_of said stand_result stand_place result_of place_of
returns-in-Over c = λ k u. rw c.in-Over.is

-- a literal, a preamble or a part's content: where it began
pub returns-in-Literal : goal.returns-in-Literal
unfolding state_of said stand_result stand_place
returns-in-Literal c = λ k u.
    elim c.in-Literal.is [
      | inl (e, left, q) ↦ rw (q, c.waiting-in-Literal.ensures)
      | inr (inl (m, i, here, q)) ↦ rw (q, c.waiting-in-Literal.ensures)
      | inr (inr (m, e, i, here, q)) ↦ rw (q, c.waiting-in-Literal.ensures)
    ]

-- any other read: here
pub returns-in_default : goal.returns-in_default
returns-in_default c = λ k u. rw c.waiting.ensures (waits_here _ c.in_default.not-Literal c.in_default.not-Preamble c.in_default.not-Content c.in_default.not-Over _ _ k u)
