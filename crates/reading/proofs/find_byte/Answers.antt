-- `reading::find_byte` meets its contract. Assumes nothing.
use Rattle.std.proofs.Common.{◌≡◌, ◌-◌, length, rules, arith, tests}
use Rattle.reading.specs.Bytes.{first_place, holds}
use Rattle.reading.proofs.find_byte.Goals as goal

pub returns : goal.returns
unfolding first_place holds
returns c =
    let s = c.args.s.now in
    let n : length s - 0 ≡ length s = omega arith in
    rw n at (c.seek.ensures (holds c.args.b s) (λ k r l h e. search (rules, tests)))
