-- `fields::common::unquoted` meets its contract: the boundary is as long as the run behind o. Assumes nothing.
use mathlib.Core.Path.{ap}
use Rattle.std.proofs.Common.{rules, tests}
use Rattle.reading.proofs.Words.{rest_is}
use Rattle.reading.specs.Bytes.{span}
use Rattle.fields.specs.Common.{unquoted}
use Rattle.fields.specs.Runs.{bare}
use Rattle.std.specs.Prelude.{Some}
use Rattle.fields.proofs.common.unquoted.Goals as goal

pub returns : goal.returns
unfolding unquoted
returns c = ap (λ n. Some (span c.args.o n)) (rw rest_is at (c.leading-len.ensures bare (λ b r l e. search (rules, tests))))
