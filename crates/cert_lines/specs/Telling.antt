-- What tells lines and texts apart. Own.
use Rattle.std.specs.Prelude.{◌≡◌, ℕ, Bool, true, not, ◌&&◌, nat_eq, List, [], ◌∷◌, ◌++◌, map}
use Rattle.cert_lines.specs.Faults.{Grammar}
use Rattle.cert_lines.specs.Rows.{Row, row_text}

-- no byte of the line is the mark
abbrev pub lacks : ℕ → List ℕ → Bool
lacks mark [] = true
lacks mark (b ∷ bytes) = not (nat_eq b mark) && lacks mark bytes

-- no line has an LF
abbrev pub AllLack : List (List ℕ) → Type 0
AllLack [] = Unit {0}
AllLack (l ∷ ls) = (lacks 10 l ≡ true) × AllLack ls

-- the lines of rows
abbrev pub texts : List Row → List (List ℕ)
texts rows = map row_text rows

-- lines begin with those of one value at most
abbrev pub Unique : {V : Type 0} → Grammar V → Type 0
Unique {V} g = (v w : V) → g.ranged v → g.ranged w → (x y : List (List ℕ))
    → texts (g.rows v) ++ x ≡ texts (g.rows w) ++ y → (v ≡ w) × (x ≡ y)
