-- `class`: the table's rule is one test, computed over the source's own numbers.
use Rattle.std.proofs.Common.{rules}
use Rattle.classes.specs.Classes.{is_white, is_blank, is_pop_white, is_digit, is_letter, is_upper}
use Rattle.classes.proofs.Rule.{agree, right, rule}
use Rattle.classes.proofs.class.Goals as goal

pub returns : goal.returns
unfolding agree right is_white is_blank is_pop_white is_digit is_letter is_upper
returns c = search (rules, rule)
