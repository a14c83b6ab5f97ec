-- `multi_body` and `part` call each other, and the levels left fall: a multipart is above the parts of its own level. The loop's invariant: what is left
-- here is what was left behind the preamble.
use Rattle.std.proofs.Common.{◌+◌, ◌-◌, length}
use Rattle.sessions.proofs.Parting.{SoFar}
use Rattle.sessions.proofs.multi.+multi_body_part.Given as goal

abbrev pub decreases-multi_body : goal.decreases-multi_body
decreases-multi_body l = l.level.left + l.level.left + 1

abbrev pub decreases-part : goal.decreases-part
decreases-part l = l.level.left + l.level.left

abbrev pub invariant-multi_body-loop-to : goal.invariant-multi_body-loop-to
invariant-multi_body-loop-to l = SoFar l.s.bytes.now l.initial.table l.initial.here l.level l.here l.table

abbrev pub decreases-multi_body-loop-to : goal.decreases-multi_body-loop-to
decreases-multi_body-loop-to l = length l.s.bytes.now - l.here.at
