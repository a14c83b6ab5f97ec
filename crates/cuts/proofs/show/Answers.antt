-- `cuts::show` meets its contract. Assumes nothing.
use Rattle.tap.proofs.Sounds.{shows_within}
use Rattle.cuts.proofs.show.Goals as goal

pub returns : goal.returns
returns c = let a = c.args in
    shows_within a.session a.w.now a.table.now c.show.result c.show.new.table c.show.ensures
