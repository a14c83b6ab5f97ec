-- `fields::pop3::stls_answer` meets its contract: `+OK`, and behind it `tls`, in any case. Assumes nothing.
use mathlib.Core.Path.{sym, ap, ◌∙◌}
use Rattle.reading.proofs.Words.{rest_is, starts_long}
use Rattle.reading.specs.Bytes.{contains, raised}
use Rattle.fields.specs.Pop3.{ok_word, stls_answer}
use Rattle.fields.proofs.pop3.stls_answer.Goals as goal

pub slice_bounds-contains_any_case-count : goal.slice_bounds-contains_any_case-count
slice_bounds-contains_any_case-count c = starts_long ok_word _ (sym c.starts_with.ensures ∙ c.if-starts_with.true)

pub slice_bounds-contains_any_case-start : goal.slice_bounds-contains_any_case-start
slice_bounds-contains_any_case-start c = starts_long ok_word _ (sym c.starts_with.ensures ∙ c.if-starts_with.true)

pub returns-then-starts_with : goal.returns-then-starts_with
unfolding stls_answer
returns-then-starts_with c = rw (sym c.starts_with.ensures ∙ c.if-starts_with.true) (c.contains_any_case.ensures ∙ ap (contains _) (ap raised (rest_is c.args.l.now 3)))

pub returns-else-starts_with : goal.returns-else-starts_with
unfolding stls_answer
returns-else-starts_with c = rw (sym c.starts_with.ensures ∙ c.if-starts_with.false) c.if-starts_with.false
