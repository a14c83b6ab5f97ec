-- `mailindex::mailindex_show` meets its contract: the window is shown to what the numbers and copies hold. Assumes nothing.
use Rattle.mailindex.proofs.Held.{showing}
use Rattle.mailindex.proofs.mailindex_show.Goals as goal

pub returns : goal.returns
returns c = showing c.show_lent-seen.result c.settings_of-settings.ensures
    c.phase_of-phase.ensures c.show_lent-seen.ensures c.numbers_of.ensures
    c.shown_numbers.ensures
