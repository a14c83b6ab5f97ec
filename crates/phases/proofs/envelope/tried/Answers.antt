-- `phases::envelope::tried` meets its contract, by whether the line holds a sender. Assumes nothing.
use mathlib.Core.Path.{refl, sym, ◌∙◌}
use Rattle.windows.specs.Stands.{enter, enters}
use Rattle.phases.specs.Phasing.{state_of, Fits}
use Rattle.phases.specs.declared.Phase.TheVariants as is
use Rattle.phases.proofs.Reactions.{tried_none, tried_given}
use Rattle.phases.proofs.Turning.{leads, leads_still}
use Rattle.phases.proofs.envelope.tried.Goals as goal

-- none is given: a recipient follows
pub returns-in-None : goal.returns-in-None
unfolding state_of enter enters Fits
returns-in-None c = let none = sym c.mail_from.ensures ∙ c.in-None.is in
    record { is = λ set k f d. leads_still (tried_none _ d none) refl (record { is = refl; fits = tt }) }

-- one is given: it is listed, or the table is full
pub returns-in-Some : goal.returns-in-Some
unfolding state_of enter enters Fits
returns-in-Some c = let address = sym c.mail_from.ensures ∙ c.in-Some.is in
    record {
      is = λ set k f d.
          rw c.onward.ensures
          (leads (tried_given _ d address) k _ _ c.note-noted.result c.note-noted.new.table is.Recipient c.note-noted.ensures (record { is = refl; fits = tt }));
    }
