use mathlib.Core.Path.{sym, ◌∙◌}
use Prim.Native.Nat.{◌+◌, ◌≤◌}
use native.Mathlib.Omega.{arith}
use lib.ListN.{length}
use Rattle.utf8.proofs.Characters.{octets_some, some_inside, character_within}
use Rattle.utf8.proofs.Walks.{ended_none_yet, ended_on, ended_here}
use Rattle.utf8.proofs.dark_end.Goals.{After-octets_of-n, then-not-is_space, else-not-is_space}
use Rattle.utf8.proofs.dark_end.Goals as goal

-- a character lies inside
inside : (c : After-octets_of-n) → c.loop-c.at + c.octets_of-n.result ≤ length c.args.l.now
inside c =
    let here = sym c.character.ensures ∙ c.in-Some.is in
    let l = c.args.l.now in
    let at = c.loop-c.at in
    omega (arith, c.octets_of-n.ensures, character_within l at (some_inside l at c.in-Some.c here) c.in-Some.c here)

pub overflow_add-end : goal.overflow_add-end
overflow_add-end c = omega (arith, inside (goal.at.overflow_add-end c).After-octets_of-n)

pub overflow_add-at : goal.overflow_add-at
overflow_add-at c = omega (arith, inside (goal.at.overflow_add-at c).After-octets_of-n)

pub loop-c-smaller : goal.loop-c-smaller
loop-c-smaller c = omega (arith, c.octets_of-n.ensures, octets_some c.in-Some.c, inside (goal.at.loop-c-smaller c).After-octets_of-n)

-- it ends the line's dark part if it is no white space
pub loop-c-preserved : goal.loop-c-preserved
loop-c-preserved c =
    ended_on c.loop-c.invariant _ _ c.octets_of-n.ensures (sym c.character.ensures ∙ c.in-Some.is)
    (elim c.if-not-is_space.branch [
      | then-not-is_space w ↦ rw (w.end-is, sym c.is_space.ensures ∙ w.if-not-is_space.true)
      | else-not-is_space w ↦ rw (w.end-is, sym c.is_space.ensures ∙ w.if-not-is_space.false)
    ])

pub loop-c-init : goal.loop-c-init
loop-c-init c = ended_none_yet _

-- none is left
pub returns : goal.returns
returns c = ended_here c.loop-c.invariant (sym c.character.ensures ∙ c.in_default.is)
