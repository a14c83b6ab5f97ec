-- `direction::clt_cmd` meets its contract, by the first space among ten bytes. Assumes nothing.
use mathlib.Core.Path.{sym, ◌∙◌}
use mathlib.Core.Bool.{and-false}
use native.Mathlib.Omega.{arith}
use lib.ListN.{length-take}
use Rattle.reading.proofs.Places.{first_inside}
use Rattle.direction.specs.Direction.{clt_cmd, command_at}
use Rattle.direction.proofs.clt_cmd.Goals as goal

pub command_at-requires : goal.command_at-requires
command_at-requires c = let l = c.args.input.now in
    omega (arith, first_inside _ _ _ (sym c.find_byte.ensures ∙ c.in-Some.is), length-take 10 l)

-- there is none
pub returns-in_default : goal.returns-in_default
unfolding clt_cmd command_at
returns-in_default c = rw (sym c.find_byte.ensures ∙ c.in_default.is, and-false)
