-- `reading::next_dash` meets its contract. Assumes nothing.
use Rattle.std.proofs.Common.{◌<◌, rules, arith, tests}
use Rattle.reading.specs.Blocks.{dashed}
use Rattle.reading.specs.Bytes.{holds}
use Rattle.reading.proofs.Passing.{next_is}
use Rattle.reading.proofs.next_dash.Goals as goal

pub seek-requires-clause-on : goal.seek-requires-clause-on
seek-requires-clause-on c = c.skip.ensures.place.1

pub seek-requires-clause-callable : goal.seek-requires-clause-callable
seek-requires-clause-callable c = λ k l h. let on : 0 < k = omega (arith, c.skip.ensures.place.0) in search rules

pub returns : goal.returns
unfolding dashed holds
returns c =
    let s = c.args.s.now in
    rw c.unwrap_or.ensures (next_is (dashed s) c.seek.result (c.skip.ensures.none (dashed s) (λ k r l h e. search (rules, tests)))
    (c.seek.ensures (dashed s) (λ k r l h e. search (rules, tests))))
