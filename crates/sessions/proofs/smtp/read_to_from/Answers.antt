use mathlib.Core.Path.{sym, ◌∙◌}
use Rattle.rules.specs.Phases.{wants, seeking}
use Rattle.sessions.proofs.SmtpTurns.{seeking_found, seeking_on}
use Rattle.sessions.proofs.Steps.{here, read_stop, walked, is_err}
use Rattle.sessions.proofs.smtp.read_to_from.Goals as goal

-- the line is short
pub returns-in_err-l : goal.returns-in_err-l
unfolding wants
returns-in_err-l c = rw (is_err _ c.from_residual.ensures.1) (walked c.loop-l.invariant.walks (read_stop seeking c.in_err-l.ensures))

-- it begins MAIL FROM:, and is tried
pub returns-then-is_mail_from : goal.returns-then-is_mail_from
returns-then-is_mail_from c = let found = sym c.is_mail_from.ensures ∙ c.if-is_mail_from.true in
    walked c.loop-l.invariant.walks (seeking_found c.in_ok-l.ensures found c.tried.ensures)

-- it does not: the next one is read
pub loop-l-preserved : goal.loop-l-preserved
loop-l-preserved c = let other = sym c.is_mail_from.ensures ∙ c.if-is_mail_from.false in
    record { walks = walked c.loop-l.invariant.walks (seeking_on c.in_ok-l.ensures other (here _ c.in_ok-l.ensures.ends.within)); long = c.loop-l.invariant.long }
