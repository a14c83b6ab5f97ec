-- Whether what is read as a line ends in CRLF: its last byte but one tells, where its last is LF.
-- Assumes nothing.
use mathlib.Core.Path.{◌≡◌, ap, ◌∙◌}
use mathlib.Core.Bool.{true, false, not, ◌&&◌}
use mathlib.Core.List.{List}
use Prim.Native.Nat.{ℕ, ◌+◌, ◌-◌, ◌≤◌}
use native.Mathlib.Omega.{arith}
use lib.Dec.{eqb}
use lib.ListN.{length, drop, get_or, length-drop}
use lib.Seq.{get_or-drop}
use Rattle.fields.specs.Common.{part}
use Rattle.reading.proofs.Ends.{ends_crlf}
use Rattle.reading.specs.Bytes.{ends_with}
use Rattle.reading.specs.Reading.{a_line, crlf}
use Rattle.rules.proofs.Strict.{and_on, and_off}
use Rattle.rules.specs.Strict.{is_bare}

module _ (w : List ℕ) (p e : ℕ) (within : e ≤ length w) (long : 2 ≤ e - p) where
  last_two : ends_with crlf (part w p e) ≡ (eqb (get_or w (e - 2) 0) 13 && eqb (get_or w (e - 1) 0) 10)
  last_two =
      let at : (k : ℕ) → k ≤ e - p → get_or (drop p w) (e - p - k) 0 ≡ get_or w (e - k) 0 =
      λ k h. let n : p + (e - p - k) ≡ e - k = omega arith in get_or-drop p w (e - p - k) 0 ∙ ap (λ (j : ℕ). get_or w j 0) n in
      ends_crlf (drop p w) (e - p) long (omega (arith, within, length-drop p w)) ∙ rw (at 2 long, at 1 (omega arith))

  -- where it is LF, the byte before it
  pub bare_by : get_or w (e - 1) 0 ≡ 10 → is_bare a_line (part w p e) ≡ not (eqb (get_or w (e - 2) 0) 13)
  unfolding is_bare
  bare_by lf = let told : ends_with crlf (part w p e) ≡ eqb (get_or w (e - 2) 0) 13 = last_two ∙ rw lf (and_on (eqb (get_or w (e - 2) 0) 13)) in ap not told

  -- where it is not, no line in CRLF ends so
  pub bare_else : eqb (get_or w (e - 1) 0) 10 ≡ false → is_bare a_line (part w p e) ≡ true
  unfolding is_bare
  bare_else other = let told : ends_with crlf (part w p e) ≡ false = last_two ∙ rw other (and_off (eqb (get_or w (e - 2) 0) 13)) in ap not told
