-- Quoted texts as bytes, so that definitions show words and not numbers.
-- Assumes nothing.
use Rattle.std.specs.Prelude.{List, [] as none, ◌∷◌ as ◌then◌, ℕ}
use Prim.Native.Char.{code}
use Prim.Native.String.{String, [], ◌∷◌}

-- the bytes of an ASCII text
abbrev pub text : String → List ℕ
text [] = none
text (c ∷ s) = code c then text s
