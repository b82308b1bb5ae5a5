-- What a step does to the two sides of a walk.
use Rattle.std.specs.Prelude.{◌≡◌, ℕ, Bool, true, List}
use Rattle.line_instance.specs.Line.{Line, has}
use Rattle.line_instance.specs.Sums.{sum_where}
use Rattle.line_rules.specs.Loads.{IsLoad, taken}
use Rattle.line_rules.specs.Order.{IsNext, Precedes}
use Rattle.line_rules.specs.Sides.{fills}
use Rattle.line_rules.specs.declared.types.Mode.{Mode}
use Rattle.line_rules.specs.declared.types.Side.TheVariants.{Front, Back}
use Rattle.line_rules.specs.declared.types.Load.{Load}
use Rattle.line_rules.specs.inner.Scan.{Scan}
use Rattle.line_rules.specs.Ends.{IsEnd}
use Rattle.station_load.specs.declared.ends.End.{End}

-- the tasks of both sides
abbrev pub pair : End → End → Load
pair front back = record { front = front.tasks; back = back.tasks }

-- what is kept of each side that loads of the mode fill, and the sum of the times of both
pub record AreEnds (line : Line) (mode : Mode) (R : List Bool) (front back : End) (sum : ℕ) : Type 0 where
  pub in_front : fills mode Front ≡ true → IsEnd line Front R front.tasks front.free front.places
  pub at_back : fills mode Back ≡ true → IsEnd line Back R back.tasks back.free back.places
  pub added : sum ≡ sum_where (has (taken (pair front back))) line.times

-- the places below k are to be gone over, from some load on
abbrev pub IsBefore : Line → ℕ → Mode → List Bool → ℕ → Load → Type 0
IsBefore line c mode R k now = (base : Load) × Scan line c mode R base now k

-- a task has joined: the new pair is the next load, whatever load the places below k are gone over from
abbrev pub IsNextFrom : Line → ℕ → Mode → List Bool → ℕ → Load → Load → Type 0
IsNextFrom line c mode R k old new = (base : Load) → Scan line c mode R base old k → IsNext line c mode R base new

-- none has, since no load comes after, and the sides have their tasks again
pub record AreOver (line : Line) (c : ℕ) (mode : Mode) (R : List Bool) (k : ℕ)
    (front back new_front new_back : End) : Type 0 where
  pub none : (base : Load) → Scan line c mode R base (pair front back) k → (l : Load) → IsLoad line c mode R l
      → Precedes line base l → ⊥
  pub same_front : new_front.tasks ≡ front.tasks
  pub same_back : new_back.tasks ≡ back.tasks
