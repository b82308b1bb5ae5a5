-- What follows of loads that are given one after the other.
use Rattle.std.specs.Prelude.{ℕ, Bool, List, [], ◌∷◌, length, Option, Some, None}
use Rattle.line_instance.specs.Line.{Line, IsLine, IsRanked}
use Rattle.line_rules.specs.Loads.{IsLoad}
use Rattle.line_rules.specs.Order.{After, IsFollowing, Lists, Counts}
use Rattle.line_rules.specs.declared.types.Mode.{Mode}
use Rattle.line_rules.specs.declared.types.Load.{Load}

-- the loads that are given after the last, each one following the one before it, until there is none after
abbrev pub Gives : Line → ℕ → Mode → List Bool → Option Load → List Load → Type 0
Gives line c mode R last [] = (l : Load) → IsLoad line c mode R l → After line last l → ⊥
Gives line c mode R last (l ∷ ls) = IsFollowing line c mode R last l × Gives line c mode R (Some l) ls

-- The loads that are given from the first on until there is none are all loads of the set, each once and in order, and
-- so as many as it has.
pub record AllLoadsAreGiven : Type 0 where
  pub listed : (line : Line) (c : ℕ) (mode : Mode) (R : List Bool) (ls : List Load) → IsLine line → IsRanked line
      → Gives line c mode R None ls → Lists line (IsLoad line c mode R) ls
  pub counted : (line : Line) (c : ℕ) (mode : Mode) (R : List Bool) (ls : List Load) → IsLine line → IsRanked line
      → Gives line c mode R None ls → Counts line (IsLoad line c mode R) (length ls)
