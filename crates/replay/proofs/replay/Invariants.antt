-- `replay::replay` is safe: the buffers keep their lengths. Assumes nothing.
use Rattle.std.proofs.Common.{◌≡◌, length}
use Rattle.replay.proofs.replay.Given as goal

abbrev pub invariant-loop : goal.invariant-loop
invariant-loop l = (length l.bytes ≡ length l.initial.bytes) × (length l.events ≡ length l.initial.events) × (length l.table ≡ length l.initial.table) × (length l.groups ≡ length l.initial.groups)
