-- `phases::parts::resting` meets its contract, by whether the bytes are there. Assumes nothing.
use mathlib.Core.Path.{refl}
use Prim.Native.Nat.{◌-◌, ◌<◌}
use native.Mathlib.Omega.{arith}
use lib.ListN.{length}
use Rattle.rules.specs.Phases as phase
use Rattle.rules.specs.Phases.{wants}
use Rattle.phases.specs.Phasing.{slot, outside, state_of, Fits}
use Rattle.phases.specs.declared.Phase.TheVariants as is
use Rattle.rules.specs.Strict.{is_bare}
use Rattle.phases.proofs.Turning.{piece_of, waits_whole, leads_still}
use Rattle.phases.proofs.Parting.{resting_all, bytes_stop, bytes_end}
use Rattle.phases.proofs.parts.resting.Goals as goal

-- they are not: the window is over
pub returns-then-w-p : goal.returns-then-w-p
unfolding state_of Fits wants
returns-then-w-p c = let pre = c.requires in
    let m = c.args.mail in
    let i = c.args.level in
    let n = c.args.left in
    λ set k t.
    waits_whole (is.Resting m i n) (phase.resting m (slot k i) (outside k i) n) refl (bytes_stop n pre.0 c.if-w-p.true) pre.0 (pre.1, pre.2)

-- the level is left
pub returns : goal.returns
unfolding state_of wants is_bare
returns c = let a = c.args in
    let room : a.left < length a.w.bytes.now - a.p = omega arith in
    let d = bytes_end {w = a.w.bytes.now} a.left c.requires.0 room in
    λ set k t.
    let b = slot k a.level in
    let os = outside k a.level in
    leads_still (piece_of (phase.resting a.mail b os a.left) d refl (resting_all a.w.base a.mail b os a.left d)) refl (c.popped.ensures k)
