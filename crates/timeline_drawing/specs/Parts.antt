-- A text as its parts, one behind the other.
use Rattle.std.specs.Prelude.{ℕ, List, [], ◌∷◌, ◌++◌}

-- the text of parts
abbrev pub text_of : List (List ℕ) → List ℕ
text_of [] = []
text_of (p ∷ ps) = p ++ text_of ps
