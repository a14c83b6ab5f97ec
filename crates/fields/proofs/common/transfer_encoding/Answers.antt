-- `fields::common::transfer_encoding` meets its contract: behind the field's name and spaces the encoding is read. Assumes nothing.
use mathlib.Core.Path.{◌≡◌, sym, ap, ◌∙◌}
use mathlib.Core.Bool.{true}
use Prim.Native.Nat.{◌+◌, ◌≤◌}
use native.Mathlib.Omega.{arith}
use lib.ListN.{length}
use Rattle.reading.proofs.Words.{raised_long}
use Rattle.reading.specs.Bytes.{raised, starts_with}
use Rattle.fields.specs.Common.{encoding_named, encoding_field, behind_spaces, transfer_encoding}
use Rattle.fields.specs.Runs.{space}
use Rattle.std.proofs.Common.{rules, tests}
use Rattle.fields.proofs.Led.{run_room, run_rest}
use Rattle.fields.proofs.common.transfer_encoding.Goals.{After-leading-name, Else-not-starts_with_any_case}
use Rattle.fields.proofs.common.transfer_encoding.Goals as goal

-- behind the test, where the line is not turned away: the field's name opens it, in any case
field-opens : (c : Else-not-starts_with_any_case) →
    starts_with (raised encoding_field) (raised c.args.l.now) ≡ true
field-opens c = sym c.starts_with_any_case.ensures ∙ c.if-not-starts_with_any_case.false

-- behind `leading`: the spaces behind the name lie inside
spaces-inside : (c : After-leading-name) →
    length encoding_field + c.leading-name.result ≤ length c.args.l.now
spaces-inside c =
    let field-opens : starts_with (raised encoding_field) (raised c.args.l.now) ≡ true = sym c.starts_with_any_case.ensures ∙ c.if-not-starts_with_any_case.false in
    run_room space c.args.l.now _ _ (c.leading-name.ensures space (λ b r l e. search (rules, tests))) (raised_long encoding_field _ field-opens)

-- ---- another field
pub returns-then-not-starts_with_any_case : goal.returns-then-not-starts_with_any_case
unfolding transfer_encoding
returns-then-not-starts_with_any_case c = rw (sym c.starts_with_any_case.ensures ∙ c.if-not-starts_with_any_case.true)

-- ---- this field
pub slice_bounds-leading-count : goal.slice_bounds-leading-count
slice_bounds-leading-count c = raised_long encoding_field _ (field-opens c)

pub overflow_add-name : goal.overflow_add-name
overflow_add-name c = omega (arith, spaces-inside c)

pub returns : goal.returns
unfolding transfer_encoding behind_spaces
returns c = rw (field-opens (goal.at.returns c).Else-not-starts_with_any_case) (c.encoding_named.ensures ∙ ap encoding_named (run_rest space c.args.l.now (length encoding_field) _ (c.leading-name.ensures space (λ b r l e. search (rules, tests)))))

pub slice_bounds-leading-start : goal.slice_bounds-leading-start
slice_bounds-leading-start c = raised_long encoding_field _ (field-opens c)

pub slice_bounds-encoding_named-count : goal.slice_bounds-encoding_named-count
slice_bounds-encoding_named-count c = spaces-inside c

pub slice_bounds-encoding_named-start : goal.slice_bounds-encoding_named-start
slice_bounds-encoding_named-start c = spaces-inside c
