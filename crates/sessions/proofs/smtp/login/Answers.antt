-- `sessions::smtp::login` meets its contract: user line, password line, and a line tried as sender. Assumes nothing.
use Rattle.sessions.proofs.SmtpTurns.{user_stop, user_on, password_stop, password_on}
use Rattle.sessions.proofs.Steps.{is_err}
use Rattle.sessions.proofs.smtp.login.Goals as goal

-- the user line stopped
pub returns-in_err-user : goal.returns-in_err-user
returns-in_err-user c = rw (is_err _ c.from_residual.ensures.1) (user_stop c.in_err-user.ensures)

-- the password line did
pub returns-in_err-pass : goal.returns-in_err-pass
returns-in_err-pass c = rw (is_err _ c.from_residual-in_err-pass.ensures.1) (user_on c.in_ok-user.ensures (password_stop c.in_err-pass.ensures))

-- the line behind them is tried
pub returns : goal.returns
returns c = user_on c.in_ok-user.ensures (password_on c.in_ok-pass.ensures c.sender.ensures)
