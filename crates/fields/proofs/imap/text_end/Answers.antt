-- `fields::imap::text_end` meets its contract: where the last byte that is not white is above 127, the line's characters decide. Assumes nothing.
use mathlib.Core.Path.{sym, ◌∙◌}
use native.Mathlib.Omega.{arith}
use Rattle.fields.specs.Imap.{dark, text_end}
use Rattle.fields.proofs.Last.{through_within}
use Rattle.fields.proofs.Texts.{end_ascii}
use Rattle.fields.proofs.imap.text_end.Goals.{then-n-eq0-via-then-n-eq0, then-n-eq0-via-else-n-eq0+then-l-n-le127}
use Rattle.fields.proofs.imap.text_end.Goals as goal

pub bounds-l-n : goal.bounds-l-n
bounds-l-n c = let l = c.args.l.now in
    omega (arith, c.dark_end-n.ensures, through_within (dark l) l)

-- all bytes are white, or the last other byte is not above 127
pub returns-then-n-eq0 : goal.returns-then-n-eq0
returns-then-n-eq0 c = end_ascii _ c.dark_end-n.ensures (λ h. elim c.then-n-eq0.branch [
  | then-n-eq0-via-then-n-eq0 w ↦ absurd (omega (arith, w.if-n-eq0.true))
  | then-n-eq0-via-else-n-eq0+then-l-n-le127 w ↦ w.if-l-n-le127.true
])

-- it is: in UTF-8
pub returns-then-is_utf8 : goal.returns-then-is_utf8
unfolding text_end
returns-then-is_utf8 c = rw (sym c.is_utf8.ensures ∙ c.if-is_utf8.true) c.dark_end.ensures

-- in other bytes
pub returns-else-is_utf8 : goal.returns-else-is_utf8
unfolding text_end
returns-else-is_utf8 c = rw (sym c.is_utf8.ensures ∙ c.if-is_utf8.false) c.dark_end-n.ensures
