-- How a name stands in the text of a picture.
use Rattle.std.specs.Prelude.{ℕ, nat_eq, cond, List, [], ◌∷◌, ◌++◌, codes}

-- a byte as it stands in the text
abbrev pub escaped_byte : ℕ → List ℕ
escaped_byte b =
    cond (nat_eq b 38) (codes "&amp;") (cond (nat_eq b 60) (codes "&lt;") (cond (nat_eq b 62) (codes "&gt;") (b ∷ [])))

-- a text as it stands there: the signs that XML keeps for itself by their words, and all others as they are
abbrev pub escaped : List ℕ → List ℕ
escaped [] = []
escaped (b ∷ bs) = escaped_byte b ++ escaped bs
