-- `batch::case` meets its contract, by the record's letter. Assumes nothing.
use mathlib.Core.Path.{refl, sym, ◌∙◌}
use borrow.Author.Rules.{rules}
use Rattle.cases.specs.Cases.{pattern}
use Rattle.input.proofs.Lent.{lent_filled}
use Rattle.rules.proofs.Kept.{written}
use Rattle.batch.proofs.Laws.{broken_guess, number_guess, other_letter, large_table, session_shown}
use Rattle.batch.proofs.case.Goals as goal

-- ---- the letter is D: a guess, from a broken record
pub returns-in_default : goal.returns-in_default
returns-in_default c = broken_guess _ _ _ _ _ _ c.if-letter-eq68.true (sym c.guess.ensures ∙ c.in_default.is) refl

-- from one that is not
pub returns-then-letter-eq68 : goal.returns-then-letter-eq68
returns-then-letter-eq68 c = number_guess _ _ _ _ _ _ c.if-letter-eq68.true (sym c.guess.ensures ∙ c.in-Some.is) c.requires c.word.ensures

-- ---- it is none
pub returns-in_default-entry_of : goal.returns-in_default-entry_of
returns-in_default-entry_of c = other_letter _ _ _ _ _ _ c.if-letter-eq68.false (sym c.entry_of.ensures ∙ c.in_default-entry_of.is) refl

-- ---- it is an entry's: more slots than the table has
pub returns-in_default-lent : goal.returns-in_default-lent
returns-in_default-lent c =
    large_table _ _ _ _ _ _ c.if-letter-eq68.false (sym c.entry_of.ensures ∙ c.in-Some-entry_of.is) (sym c.lent.ensures.is ∙ c.in_default-lent.is) refl

-- the table is lent, and the answer listed
pub list-requires : goal.list-requires
list-requires c = (written _ _ _ _ _ c.dissect-a.ensures, search rules)

pub returns : goal.returns
returns c = let table_is = lent_filled _ c.args.table.now _ c.in-Some-lent.ensures.within pattern c.fill.ensures in
    let dissect-is = c.dissect-a.ensures in
    session_shown _ _ _ _ _ _ c.if-letter-eq68.false (sym c.entry_of.ensures ∙ c.in-Some-entry_of.is) _ (sym c.lent.ensures.is ∙ c.in-Some-lent.is)
    (rw table_is at dissect-is) c.list.ensures
