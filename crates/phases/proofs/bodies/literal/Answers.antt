-- `phases::bodies::literal` meets its contract, by whether all its bytes are shown. Assumes nothing.
use mathlib.Core.Path.{refl}
use native.Mathlib.Omega.{arith}
use Rattle.rules.specs.Mail.{on_literal}
use Rattle.windows.specs.Stands.{enter, enters}
use Rattle.phases.specs.Phasing.{state_of, Fits}
use Rattle.phases.specs.declared.Phase.TheVariants as is
use Rattle.phases.proofs.Reactions.{literal_piece, literal_waits}
use Rattle.phases.proofs.Turning.{leads}
use Rattle.phases.proofs.bodies.literal.Goals as goal

-- they are not: all that are shown are taken
pub returns-then-shown-left : goal.returns-then-shown-left
unfolding state_of
returns-then-shown-left c = let pre = c.requires in λ set k. literal_waits _ _ _ pre.0 c.if-shown-left.true pre.1

-- they are: the literal is listed, or the table is full
pub returns : goal.returns
unfolding on_literal state_of enter enters Fits
returns c = λ set k.
    rw c.onward.ensures
    (leads (literal_piece _ _ _ _ (omega arith)) k _ _ c.hold-noted.result c.hold-noted.new.table is.Closing c.hold-noted.ensures (record { is = refl; fits = tt }))
