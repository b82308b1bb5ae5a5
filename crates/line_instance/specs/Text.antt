-- The text of a set.
use Rattle.std.specs.Prelude.{ℕ, Bool, List, [], ◌∷◌, ◌++◌, codes, decimal}
use Rattle.line_instance.specs.Truths.{members_of}

-- the numbers in decimal digits, the first behind the mark and each other one behind a comma and a blank
unfoldable pub list_text : List ℕ → List ℕ → List ℕ
list_text mark [] = []
list_text mark (i ∷ more) = mark ++ decimal i ++ list_text (codes ", ") more

-- the members in braces, as {0, 3, 17}
abbrev pub set_text : List Bool → List ℕ
set_text s = codes "{" ++ list_text [] (members_of s) ++ codes "}"
