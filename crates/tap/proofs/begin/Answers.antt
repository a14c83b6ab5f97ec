-- `tap::begin` meets its contract. Assumes nothing.
use mathlib.Core.Path.{refl}
use Rattle.tap.proofs.Sounds.{begun_so, zeros}
use Rattle.tap.proofs.begin.Goals as goal

-- the first phase, nothing taken, nothing listed, no boundary open
pub returns : goal.returns
returns c = begun_so c.args.settings c.args.entry refl c.first_phase.ensures refl refl (zeros 648)
