-- Texts lie in the buffer that they are put into.
-- Assumes nothing.
use mathlib.Core.List.{List}
use Prim.Native.Nat.{ℕ, ◌-◌, ◌/◌, ◌≤◌}
use native.Mathlib.Omega.{arith}
use lib.ListN.{length}
use Rattle.events.specs.Table.{Final}
use Rattle.listing.proofs.Lines.{listing_length}
use Rattle.listing.proofs.Pasted.{pasted_length}
use Rattle.listing.specs.Listing.{Pasted, listing}

pub listing_fits : {o u : List ℕ} {at r : ℕ} (f : Final) → Pasted o at (listing f) r u → at ≤ length o → 63 ≤ length o - at → f.count ≤ (length o - at - 63) / 84 → r ≤ length u
listing_fits f p h l k = omega (arith, p.end, listing_length f, pasted_length p (omega (arith, listing_length f)))
