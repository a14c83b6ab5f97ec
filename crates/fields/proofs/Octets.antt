-- A number of octets without its zeros in front, compared with the largest in digits.
-- Assumes nothing.
use mathlib.Core.Path.{◌≡◌, ap, ◌∙◌}
use mathlib.Core.List.{List, [], ◌∷◌}
use Prim.Native.Nat.{ℕ, ◌-◌}
use lib.Dec.{leb}
use lib.ListN.{length, take, drop}
use Rattle.reading.proofs.Words.{rest_is}
use Rattle.fields.specs.Pop3.{octets}
use Rattle.fields.specs.Runs.{worth, worth_behind}
use Rattle.fields.proofs.Compared.{Dropped}

pub octets_by : (l : List ℕ) (i : ℕ) → Dropped l i
    → leb (worth (take (length l - i) (drop i l))) (worth (52 ∷ 50 ∷ 57 ∷ 52 ∷ 57 ∷ 54 ∷ 55 ∷ 50 ∷ 57 ∷ 53 ∷ [])) ≡ octets l
unfolding octets worth worth_behind
octets_by l i d = ap (λ (n : ℕ). leb n 4294967295) (ap worth (rest_is l i) ∙ d.is)
