-- `fields::pop3::retr_answer` meets its contract: `+OK`, white space, one byte at least, and what `numbered` answers. Assumes nothing.
use mathlib.Core.Path.{◌≡◌, sym, ◌∙◌}
use mathlib.Core.Bool.{true}
use native.Mathlib.Omega.{arith}
use Rattle.std.proofs.Common.{rules}
use Rattle.classes.specs.Classes.{is_pop_white}
use Rattle.reading.proofs.Words.{rest_is, starts_long}
use Rattle.reading.specs.Bytes.{starts_with}
use Rattle.fields.specs.Pop3.{numbered, ok_word, retr_answer}
use Rattle.fields.proofs.Behind.{run_within, behind_none, behind_some}
use Rattle.fields.proofs.pop3.retr_answer.Goals.{Else-not-starts_with}
use Rattle.fields.proofs.pop3.retr_answer.Goals as goal

-- no `+OK`
pub returns-then-not-starts_with : goal.returns-then-not-starts_with
unfolding retr_answer
returns-then-not-starts_with c = rw (sym c.starts_with.ensures ∙ c.if-not-starts_with.true)

-- ---- `+OK` opens the line
ok-opens : (c : Else-not-starts_with) → starts_with ok_word c.args.l.now ≡ true
ok-opens c = sym c.starts_with.ensures ∙ c.if-not-starts_with.false

pub slice_bounds-rest-count : goal.slice_bounds-rest-count
slice_bounds-rest-count c = starts_long ok_word _ (ok-opens c)

pub slice_bounds-rest-start : goal.slice_bounds-rest-start
slice_bounds-rest-start c = starts_long ok_word _ (ok-opens c)

pub slice_bounds-numbered-count : goal.slice_bounds-numbered-count
slice_bounds-numbered-count c = run_within is_pop_white _ (c.leading-start.ensures is_pop_white (λ b r l e. search rules))

pub slice_bounds-numbered-start : goal.slice_bounds-numbered-start
slice_bounds-numbered-start c = run_within is_pop_white _ (c.leading-start.ensures is_pop_white (λ b r l e. search rules))

-- white space
pub returns-then-start-gt0 : goal.returns-then-start-gt0
unfolding retr_answer
returns-then-start-gt0 c =
    rw (ok-opens (goal.at.returns-then-start-gt0 c).Else-not-starts_with)
    (rw rest_is at (behind_some is_pop_white _ (c.leading-start.ensures is_pop_white (λ b r l e. search rules)) numbered (omega arith) c.numbered.ensures))

-- none
pub returns-else-start-gt0 : goal.returns-else-start-gt0
unfolding retr_answer
returns-else-start-gt0 c =
    rw (ok-opens (goal.at.returns-else-start-gt0 c).Else-not-starts_with)
    (rw rest_is at (behind_none is_pop_white _ (c.leading-start.ensures is_pop_white (λ b r l e. search rules)) numbered (omega arith)))
