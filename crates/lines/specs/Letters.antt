-- A text's bytes: the number of each of its characters, which is ASCII.
-- Assumes nothing.
use Rattle.std.specs.Prelude.{List, [] as nothing, ◌∷◌ as ◌then◌, ℕ}
use Prim.Native.Char.{code}
use Prim.Native.String.{String, [], ◌∷◌}

unfoldable pub text : String → List ℕ
text [] = nothing
text (letter ∷ letters) = code letter then text letters
