-- `sessions::dissect` meets its contract: 2 first, else the entry that is asked for. Assumes nothing.
use mathlib.Core.Path.{◌∙◌}
use Rattle.rules.specs.Sessions.{start_of}
use Rattle.sessions.proofs.Answers.{too_long, in_limit}
use Rattle.sessions.proofs.dissect.Goals as goal

-- no more bytes than the limit
pub returns-in-Some : goal.returns-in-Some
returns-in-Some c = in_limit (start_of c.args.entry) c.args.s.now _ _ (rw c.in-Some.ensures at c.in-Some.bytes.within)
    (rw c.in-Some.ensures at (c.answer.ensures _ ∙ c.walk.ensures))

-- more: refusal 2
pub returns-in-None : goal.returns-in-None
returns-in-None c = c.answer-in-None.ensures _ ∙ too_long (start_of c.args.entry) _ _ c.in-None.ensures c.stop.ensures
