-- Any two outcomes that meet a public function's contract are identical. docs/THEOREMS.md says which law speaks for which function.
-- Assumes nothing.
use mathlib.Core.Path.{◌≡◌, sym, ap, ◌∙◌}
use mathlib.Core.List.{List}
use Prim.Native.Nat.{ℕ}
use Rattle.events.specs.Table.{Final, Puts}
use Rattle.events.specs.declared.Event.{Event}
use Rattle.std.specs.Prelude.{Option}
use Rattle.events.specs.declared.Log.{Log}
use Rattle.fields.specs.Common.{Known, known_of, Says}
use Rattle.fields.specs.declared.common.Scan.{Scan}
use Rattle.rules.specs.declared.Entry.{Entry}
use Rattle.promises.specs.Promises.{Exit, Owes, Determined}

-- a contract that is an equation for the answer
pub by_equation : {A : Type 0} (v : A) → Determined (λ (r : A). r ≡ v)
by_equation v x y h g = h ∙ sym g

-- the four entries and `dissect`: table, result, place and count
exit_of : Final → Exit
exit_of f = record { table = f.table; answer = record { result = f.result; place = f.place; count = f.count } }

pub entries : (e : Entry) (t s : List ℕ) → Determined (Owes e t s)
unfolding exit_of
entries e t s x y h g = ap exit_of (h.is ∙ sym g.is)

-- `put`: its answer and the table
pub puts : {t u v : List ℕ} {log : Log} {e : Event} {r q : Option Log} → Puts t log e r u → Puts t log e q v → (r ≡ q) × (u ≡ v)
puts h g = (h.answer ∙ sym g.answer, h.table ∙ sym g.table)

-- `scan_line`: the boundary's bytes, not which of two equal runs of bytes in the header is meant
pub scans : (h : List ℕ) (k : Known) (x y : Scan) → Says h k x → Says h k y → known_of h x ≡ known_of h y
scans h k x y f g = f.is ∙ sym g.is
