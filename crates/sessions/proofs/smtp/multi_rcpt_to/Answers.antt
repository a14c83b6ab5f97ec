use mathlib.Core.Path.{sym, ◌∙◌}
use Rattle.rules.specs.Phases.{wants, recipient}
use Rattle.sessions.proofs.SmtpTurns.{recipient_data, recipient_line}
use Rattle.sessions.proofs.Steps.{here, read_stop, walked, stopped, is_err}
use Rattle.sessions.proofs.smtp.multi_rcpt_to.Goals as goal

-- the line is short
pub returns-in_err-l : goal.returns-in_err-l
unfolding wants
returns-in_err-l c = rw (is_err _ c.from_residual.ensures.1) (walked c.loop-l.invariant.walks (read_stop recipient c.in_err-l.ensures))

-- DATA
pub returns-then-is_data : goal.returns-then-is_data
returns-then-is_data c = let last = sym c.is_data.ensures ∙ c.if-is_data.true in
    walked c.loop-l.invariant.walks (recipient_data c.in_ok-l.ensures last (here _ c.in_ok-l.ensures.ends.within))

-- ---- any other line is a recipient, or it stops
pub returns-in_err-here : goal.returns-in_err-here
returns-in_err-here c = let other = sym c.is_data.ensures ∙ c.if-is_data.false in
    rw (is_err _ c.from_residual-in_err-here.ensures.1) (walked c.loop-l.invariant.walks (recipient_line c.in_ok-l.ensures other (stopped c.in_err-here.ensures)))

pub loop-l-preserved : goal.loop-l-preserved
loop-l-preserved c = let other = sym c.is_data.ensures ∙ c.if-is_data.false in
    record {
      walks = walked c.loop-l.invariant.walks (recipient_line c.in_ok-l.ensures other c.in_ok-here.ensures);
      long = c.recipient.auto.table ∙ c.loop-l.invariant.long;
    }
