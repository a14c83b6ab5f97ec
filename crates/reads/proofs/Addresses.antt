-- An address lies inside the line that holds it.
-- Assumes nothing.
use mathlib.Core.Path.{◌≡◌, refl}
use mathlib.Core.List.{List}
use Prim.Native.Nat.{ℕ, ◌+◌, ◌-◌, ◌≤◌, ◌<◌}
use native.Mathlib.Omega.{arith}
use lib.ListN.{length, drop, length-take, length-drop}
use Rattle.fields.specs.Common.{part}
use Rattle.fields.specs.Smtp.{closing, up_to_end, required, from_field, to_field, mail_from, rcpt_to}
use Rattle.std.specs.Prelude.{Option, Some, None}
use Rattle.reading.specs.declared.Span.{Span}
use Rattle.reading.proofs.Places.{by_test, first_inside}
use Rattle.reading.proofs.Words.{starts_long}
use Rattle.reading.specs.Bytes.{starts_with, holds, span}

-- ---- an address lies inside its line
abbrev InLine : List ℕ → Option Span → Type 0
InLine l (Some a) = a.at + a.len ≤ length l
InLine l None = Unit {0}

closing_within : (w l : List ℕ) (q : ℕ) → closing w l ≡ Some q → q < length l - length w
unfolding closing
closing_within w l q e = omega (arith, first_inside (holds 62 (drop (length w) l)) (drop (length w) l) q e, length-drop (length w) l)

from_at : (w l : List ℕ) (q : Option ℕ) → length w ≤ length l → closing w l ≡ q → InLine l (Some (span (length w) (up_to_end (length l - length w) q)))
unfolding up_to_end
from_at w l (Some q) h e = omega (arith, closing_within w l q e)
from_at w l None h e = omega arith

from_in_line : (l : List ℕ) → InLine l (mail_from l)
unfolding mail_from
from_in_line l = by_test (starts_with from_field l) (λ t. rw t (from_at from_field l (closing from_field l) (starts_long from_field l t) refl)) (λ f. rw f tt)

to_at : (w l : List ℕ) (q : Option ℕ) → length w ≤ length l → closing w l ≡ q → InLine l (required (length w) q)
unfolding required
to_at w l (Some q) h e = omega (arith, closing_within w l q e)
to_at w l None h e = tt

to_in_line : (l : List ℕ) → InLine l (rcpt_to l)
unfolding rcpt_to
to_in_line l = by_test (starts_with to_field l) (λ t. rw t (to_at to_field l (closing to_field l) (starts_long to_field l t) refl)) (λ f. rw f tt)

module _ (s : List ℕ) (at end : ℕ) {a : Span} where
  pub from_room : mail_from (part s at end) ≡ Some a → a.at + a.len ≤ end - at
  from_room e = omega (arith, rw e at (from_in_line (part s at end)), length-take (end - at) (drop at s))

  pub to_room : rcpt_to (part s at end) ≡ Some a → a.at + a.len ≤ end - at
  to_room e = omega (arith, rw e at (to_in_line (part s at end)), length-take (end - at) (drop at s))
