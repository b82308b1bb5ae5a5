-- What a walk over the loads of a frame of a trail finds, up to its last load.
use Rattle.std.specs.Prelude.{◌≡◌, ℕ, ◌<◌, ◌≤◌, ◌⊎◌, Bool, true, false, List, length, Option, Some, None}
use Rattle.line_instance.specs.Line.{Line}
use Rattle.line_rules.specs.Loads.{IsLoad}
use Rattle.line_rules.specs.Order.{Precedes, UpTo}
use Rattle.line_rules.specs.Entries.{IsOpen}
use Rattle.line_rules.specs.declared.types.LineKind.{LineKind}
use Rattle.line_rules.specs.declared.types.Mode.{Mode}
use Rattle.line_rules.specs.declared.types.Load.{Load}
use Rattle.line_rules.specs.declared.types.Entry.{Entry}
use Rattle.line_check.specs.Walks.{Tells}
use Rattle.line_check.specs.declared.types.Walked.{Walked}
use Rattle.line_check.specs.declared.types.Walked.TheVariants as walked

-- the loads that a frame's cites are matched with, of those that need one: up to the last, and above the deepest frame
-- those before it
abbrev pub IsMatched : Bool → Line → Option Load → Load → Type 0
IsMatched true line last k = UpTo line last k
IsMatched false line None k = ⊥
IsMatched false line (Some end) k = Precedes line k end

-- what is told of a walk up to a last load
abbrev pub TellsTo : LineKind → Line → ℕ → Mode → List Bool → ℕ → List Entry → List ℕ → Load → Bool → ℕ → Walked
    → Type 0
TellsTo kind line c mode R most es cites end deepest steps r =
    Tells line (λ k. IsLoad line c mode R k × UpTo line (Some end) k)
    (λ k. IsOpen kind line c mode R most k × IsMatched deepest line (Some end) k) es R most c cites steps r

-- at the end of a walk, cites are left or all are taken
abbrev pub HasEnded : List ℕ → ℕ → ℕ → Walked → Type 0
HasEnded cites taken units r = ((taken < length cites) × (r ≡ walked.Spare units))
    ⊎ ((length cites ≤ taken) × (r ≡ walked.Right units))
