use mathlib.Core.Path.{sym, ◌∙◌}
use Rattle.rules.specs.Mail.{after_mail}
use Rattle.rules.specs.Phases.{reads, text, wants}
use Rattle.sessions.proofs.MailTurns.{read_as, text_dot, text_line}
use Rattle.sessions.proofs.Steps.{read_stop, add, add_stop, walked, is_err}
use Rattle.sessions.proofs.body.body_lines.Goals as goal

-- the line is short
pub returns-in_err-end : goal.returns-in_err-end
unfolding wants
returns-in_err-end c = λ m. rw (is_err _ c.from_residual.ensures.1) (walked (c.loop-end.invariant.walks m) (read_stop (text m _) c.in_err-end.ensures))

-- ---- it is the dot line
pub returns-in_err-log : goal.returns-in_err-log
unfolding wants
returns-in_err-log c = let line = c.in_ok-end.ensures in
    let dot = sym c.equals.ensures ∙ c.if-equals.true in
    λ m. rw (is_err _ c.from_residual-in_err-log.ensures.1)
    (walked (c.loop-end.invariant.walks m) (read_as (text m _) line (text_dot line m _ dot) (add_stop (after_mail m _) c.in_err-log.ensures)))

pub returns-then-equals : goal.returns-then-equals
unfolding wants
returns-then-equals c = let line = c.in_ok-end.ensures in
    let dot = sym c.equals.ensures ∙ c.if-equals.true in
    λ m. walked (c.loop-end.invariant.walks m) (read_as (text m _) line (text_dot line m _ dot) (add {to = after_mail m} c.in_ok-log.ensures line.within))

-- ---- any other line is listed, unless the table is full
pub returns-in_err-log-2 : goal.returns-in_err-log-2
unfolding wants
returns-in_err-log-2 c = let line = c.in_ok-end.ensures in
    let other = sym c.equals.ensures ∙ c.if-equals.false in
    λ m. rw (is_err _ c.from_residual-in_err-log-2.ensures.1)
    (walked (c.loop-end.invariant.walks m) (read_as (text m _) line (text_line line m _ other) (add_stop (reads (text m _)) c.in_err-log-2.ensures)))

pub loop-end-preserved : goal.loop-end-preserved
unfolding wants
loop-end-preserved c = let line = c.in_ok-end.ensures in
    let other = sym c.equals.ensures ∙ c.if-equals.false in
    record {
      walks = λ m. walked (c.loop-end.invariant.walks m)
          (read_as (text m _) line (text_line line m _ other) (add {to = λ q. reads (text m _)} c.in_ok-log-2.ensures line.within));
      within = line.within;
      long = c.note-in-loop-end.auto.table ∙ c.loop-end.invariant.long;
    }
