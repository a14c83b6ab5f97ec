-- `sessions::multi::epilogue` meets its contract. The loop's invariant: what is left here is what was left. Assumes nothing.
use mathlib.Core.Path.{◌≡◌}
use mathlib.Core.List.{List}
use Prim.Native.Nat.{ℕ, ◌-◌, ◌≤◌}
use lib.ListN.{length}
use Rattle.std.specs.Prelude.{Ok}
use Rattle.fields.specs.Common.{bytes_of}
use Rattle.reading.specs.declared.Span.{Span}
use Rattle.rules.specs.Mail.{outermost, skip}
use Rattle.rules.specs.declared.Mail.{Mail}
use Rattle.sessions.specs.Walks.{goes, Walks}
use Rattle.sessions.specs.declared.walks.Reached.{Reached}
use Rattle.sessions.proofs.multi.epilogue.Given as goal

-- lines behind a close have been skipped up to p, whatever level was closed
pub record Skipped (s : List ℕ) (from : Reached) (outer : Span) (m : Mail) (p : Reached) : Type 0 where
  pub on : from.at ≤ p.at
  pub within : p.at ≤ length s
  pub walks : (b : List ℕ) (os : List (List ℕ)) → outermost b os ≡ bytes_of s outer
      → (t : List ℕ) → Walks s t from.log from.at (goes (skip m b os from.at)) (skip m b os) (Ok p) t

abbrev pub invariant-loop-outer : goal.invariant-loop-outer
invariant-loop-outer l = Skipped l.s.bytes.now l.initial.here l.outer l.mail l.here

abbrev pub decreases-loop-outer : goal.decreases-loop-outer
decreases-loop-outer l = length l.s.bytes.now - l.here.at
