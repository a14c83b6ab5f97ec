use mathlib.Core.Path.{refl, sym, ap, ◌∙◌}
use native.Mathlib.Omega.{arith}
use Rattle.utf8.specs.Utf8.{dark_lead}
use Rattle.utf8.proofs.Characters.{octets_some, some_inside, character_at}
use Rattle.utf8.proofs.Walks.{walked_on, walked_up_to, walked_out, lead_on, lead_white}
use Rattle.utf8.proofs.dark_lead.Goals as goal

-- white space
pub returns-then-is_space : goal.returns-then-is_space
returns-then-is_space c =
    let here = sym c.character.ensures ∙ c.in-Some.is in
    let l = c.args.l.now in
    let at = c.loop-c.at in
    walked_up_to c.loop-c.invariant (ap dark_lead (character_at l at (some_inside l at _ here) _ here) ∙ lead_white _ (sym c.is_space.ensures ∙ c.if-is_space.true) _)

-- another character
pub loop-c-preserved : goal.loop-c-preserved
loop-c-preserved c = walked_on c.loop-c.invariant _ _ c.octets_of-at.ensures (sym c.character.ensures ∙ c.in-Some.is) (lead_on _ (sym c.is_space.ensures ∙ c.if-is_space.false))

pub overflow_add-at : goal.overflow_add-at
overflow_add-at c = omega (arith, (loop-c-preserved c).within)

pub loop-c-smaller : goal.loop-c-smaller
loop-c-smaller c = omega (arith, c.octets_of-at.ensures, octets_some c.in-Some.c, (loop-c-preserved c).within)

-- none is left
pub returns : goal.returns
unfolding dark_lead
returns c = walked_out c.loop-c.invariant refl (sym c.character.ensures ∙ c.in_default.is)
