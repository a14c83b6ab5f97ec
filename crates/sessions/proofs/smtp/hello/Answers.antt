-- `sessions::smtp::hello` meets its contract, by what the first line is. Assumes nothing.
use mathlib.Core.Path.{sym, ◌∙◌}
use Rattle.rules.specs.Phases.{wants, hello}
use Rattle.sessions.proofs.SmtpTurns.{hello_said, hello_not}
use Rattle.sessions.proofs.Steps.{here, read_stop, is_err}
use Rattle.sessions.proofs.smtp.hello.Goals as goal

-- the line is short
pub returns-in_err-end : goal.returns-in_err-end
unfolding wants
returns-in_err-end c = λ t. rw (is_err _ c.from_residual.ensures.1) (read_stop hello c.in_err-end.ensures)

-- it greets
pub returns-then-starts_with_helo : goal.returns-then-starts_with_helo
returns-then-starts_with_helo c = λ t. hello_said c.in_ok-end.ensures (sym c.starts_with_helo.ensures ∙ c.if-starts_with_helo.true) (here _ c.in_ok-end.ensures.within)

-- it does not: refusal 3
pub returns : goal.returns
returns c = λ t. hello_not c.in_ok-end.ensures (sym c.starts_with_helo.ensures ∙ c.if-starts_with_helo.false) c.stop.ensures
