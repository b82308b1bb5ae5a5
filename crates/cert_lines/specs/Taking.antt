-- How a line is taken from a text.
use Rattle.std.specs.Prelude.{◌≡◌, ℕ, List, ◌∷◌, ◌++◌}
use Rattle.cert_lines.specs.Faults.{IsLine}

-- a line was taken from the front of a text
pub record IsTaken (text line rest : List ℕ) : Type 0 where
  pub all : text ≡ line ++ 10 ∷ rest
  pub is_line : IsLine line

-- no LF is left
abbrev pub IsAtEnd : List ℕ → Type 0
IsAtEnd text = IsLine text
