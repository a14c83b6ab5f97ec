-- `sessions::body::body_lines` meets its contract. The loop's invariant: what is left here is what was left. Assumes nothing.
use mathlib.Core.Path.{◌≡◌}
use mathlib.Core.List.{List, []}
use Prim.Native.Nat.{ℕ, ◌-◌, ◌≤◌}
use lib.ListN.{length}
use Rattle.std.specs.Prelude.{Ok}
use Rattle.events.specs.declared.Encoding.{Encoding}
use Rattle.rules.specs.Phases.{reads, text, then}
use Rattle.rules.specs.declared.Mail.{Mail}
use Rattle.sessions.specs.Walks.{Walks}
use Rattle.sessions.specs.declared.walks.Reached.{Reached}
use Rattle.sessions.proofs.body.body_lines.Given as goal

-- lines of a body have been listed up to p, whosever mail it is
pub record Listed (s t : List ℕ) (from : Reached) (e : Encoding) (p : Reached) (u : List ℕ) : Type 0 where
  pub walks : (m : Mail) → Walks s t from.log from.at (then [] (text m e)) (λ q. reads (text m e)) (Ok p) u
  pub within : p.at ≤ length s
  pub long : length u ≡ length t

abbrev pub invariant-loop-end : goal.invariant-loop-end
invariant-loop-end l = Listed l.s.bytes.now l.initial.table l.initial.here l.encoding l.here l.table

abbrev pub decreases-loop-end : goal.decreases-loop-end
decreases-loop-end l = length l.s.bytes.now - l.here.at
