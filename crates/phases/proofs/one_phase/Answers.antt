-- `phases::one_phase` meets its contract: each phase has its function, and an end takes what it may. Assumes nothing.
use mathlib.Core.Path.{refl}
use Rattle.phases.proofs.Dispatch.{ready_head, ready_literal, ready_preamble, ready_opened, ready_content, ready_between, ready_skipping, ready_resting, ends_here}
use Rattle.phases.proofs.one_phase.Goals as goal

-- ---- what each phase asks
-- a header: its level is at most 8, its mail has begun
pub head-requires : goal.head-requires
head-requires c = let fits = ready_head c.requires c.in-Head.is in (c.requires.within, fits.0, c.requires.slots, fits.1)

-- a literal: it began before
pub literal-requires : goal.literal-requires
literal-requires c = let fits = ready_literal c.requires c.in-Literal.is in (c.requires.within, fits)

-- a preamble: its level is at most 7, it began before, its mail has begun
pub preamble-requires : goal.preamble-requires
preamble-requires c = let fits = ready_preamble c.requires c.in-Preamble.is in (c.requires.within, fits.0, fits.1, c.requires.slots, fits.2)

-- an opened part: its level is at most 7, its mail has begun
pub opened-requires : goal.opened-requires
opened-requires c = let fits = ready_opened c.requires c.in-Opened.is in (c.requires.within, fits.0, fits.1)

-- a part's content: its level is at most 7, it began before, its mail has begun
pub content-requires : goal.content-requires
content-requires c = let fits = ready_content c.requires c.in-Content.is in (c.requires.within, fits.0, fits.1, c.requires.slots, fits.2)

-- between parts: the level is at most 7, the mail has begun
pub between-requires : goal.between-requires
between-requires c = let fits = ready_between c.requires c.in-Between.is in (c.requires.within, fits.0, c.requires.slots, fits.1)

-- an epilogue: its level is at most 7, its mail has begun
pub skipping-requires : goal.skipping-requires
skipping-requires c = let fits = ready_skipping c.requires c.in-Skipping.is in (c.requires.within, fits.0, c.requires.slots, fits.1)

-- a literal's rest: its level is at most 7, its mail has begun
pub resting-requires : goal.resting-requires
resting-requires c = let fits = ready_resting c.requires c.in-Resting.is in (c.requires.within, fits.0, fits.1)

-- ---- the session is over
pub returns-in-Over : goal.returns-in-Over
returns-in-Over c = record { slots = c.requires.slots; is = rw (c.in-Over.is, c.ended.ensures) (ends_here c.requires.within refl) }
