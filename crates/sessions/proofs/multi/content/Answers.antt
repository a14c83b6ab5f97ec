-- `sessions::multi::content` meets its contract, by what stands behind the content's delimiter. Assumes nothing.
use mathlib.Core.List.{[]}
use native.Mathlib.Omega.{arith}
use Rattle.rules.specs.Mail.{popped}
use Rattle.rules.specs.Phases.{between, wants}
use Rattle.rules.specs.declared.Mail.TheVariants.{Smtp}
use Rattle.sessions.proofs.MailTurns.{between_crlf, between_hyphens, between_other}
use Rattle.sessions.proofs.Parting.{parted_stop, parted_next, parted_closed}
use Rattle.sessions.proofs.Steps.{read_stop, walked, is_err}
use Rattle.sessions.proofs.multi.content.Goals as goal

-- ---- the two bytes behind the delimiter
pub two_bytes-requires : goal.two_bytes-requires
two_bytes-requires c = (c.in_ok-here.ensures Smtp []).moved.1

-- they are not there
pub returns-in_err-behind : goal.returns-in_err-behind
unfolding wants
returns-in_err-behind c = λ m. rw (is_err _ c.from_residual-in_err-behind.ensures.1)
    (parted_stop (popped m) (λ os f. walked (c.in_ok-here.ensures m os) (read_stop (between m _ os) c.in_err-behind.ensures)))

-- CRLF: another part follows
pub returns-in-Crlf : goal.returns-in-Crlf
returns-in-Crlf c = let pair = rw c.in-Crlf.is at c.in_ok-behind.ensures in
    λ m. parted_next (omega (arith, (c.in_ok-here.ensures m []).moved.0)) pair.ends.within (λ os f. walked (c.in_ok-here.ensures m os) (between_crlf m _ os pair))

-- two hyphens: the multipart is closed
pub returns-in-Hyphens : goal.returns-in-Hyphens
returns-in-Hyphens c = let pair = rw c.in-Hyphens.is at c.in_ok-behind.ensures in
    λ m. parted_closed (omega (arith, (c.in_ok-here.ensures m []).moved.0)) pair.ends.within (λ os f. walked (c.in_ok-here.ensures m os) (between_hyphens m _ os pair))

-- other bytes: refusal 6
pub returns-in-Other : goal.returns-in-Other
returns-in-Other c = let other = rw c.in-Other.is at c.in_ok-behind.ensures in
    λ m. parted_stop (popped m) (λ os f. walked (c.in_ok-here.ensures m os) (between_other m _ os other c.stop.ensures))
