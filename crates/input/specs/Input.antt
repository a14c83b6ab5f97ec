-- How many bytes a read may answer, and what it took from a reader whose bytes are known.
-- Assumes nothing.
use Rattle.std.specs.Prelude.{ℕ, ◌≤◌, ◌<◌, List, length, take, Option, Result, Ok, Err}
use Rattle.std.specs.Io.KnownBytes.{Consumes, IsAtEnd}

-- no more bytes than there is room for
abbrev pub within : {E : Type 0} → Result ℕ E → ℕ → Type 0
within (Ok n) room = n ≤ room
within (Err e) room = Unit {0}

-- the bytes that were taken stand at the front of the buffer b; where they are fewer than it holds, no byte is left.
-- A failed read took those that came before it
abbrev pub Takes : {E : Type 0} → Result ℕ E → Option (List ℕ) → Option (List ℕ) → List ℕ → Type 0
Takes (Ok n) old new b = Consumes old new (take n b) × (n < length b → IsAtEnd new)
Takes (Err e) old new b = (n : ℕ) × (n ≤ length b) × Consumes old new (take n b)
