-- From an entry's contract to the numbers.
-- Assumes nothing.
use mathlib.Core.Path.{◌≡◌, ap, ◌∙◌}
use mathlib.Core.List.{List, [], ◌∷◌}
use Prim.Native.Nat.{ℕ}
use Rattle.events.specs.Events.{result_number}
use Rattle.events.specs.Table.{Final, final_of}
use Rattle.events.specs.declared.Answer.{Answer}
use Rattle.mailindex.specs.Exports.{Answers, numbers_of}

pub answers : {f : Final} {u n : List ℕ} {a : Answer} → final_of u a ≡ f → n ≡ numbers_of a → Answers f u n
answers h g = record { table = ap (λ (x : Final). x.table) h; numbers = g ∙ ap (λ (x : Final). result_number x.result ∷ x.place ∷ x.count ∷ []) h }
