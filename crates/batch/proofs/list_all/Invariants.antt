-- `batch::list_all` is safe: the buffers keep their lengths. Assumes nothing.
use mathlib.Core.Path.{◌≡◌}
use lib.ListN.{length}
use Rattle.batch.proofs.list_all.Given as goal

abbrev pub invariant-loop : goal.invariant-loop
invariant-loop g l = (length l.bytes ≡ length l.initial.bytes) × (length l.table ≡ length l.initial.table) × (length l.out ≡ length l.initial.out)
