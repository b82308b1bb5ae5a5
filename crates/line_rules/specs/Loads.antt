-- What the end station of a line may be given: loads and full loads.
use Rattle.std.specs.Prelude.{◌≡◌, ℕ, ◌≤◌, Bool, true, false, List, slice_set}
use Rattle.line_instance.specs.Truths.{In, union, minus, IsSubset, IsEmpty}
use Rattle.line_instance.specs.Line.{Line, Before, Apart, IsTaskSet, has}
use Rattle.line_instance.specs.Sums.{sum_where}
use Rattle.line_rules.specs.declared.types.LineKind.{LineKind}
use Rattle.line_rules.specs.declared.types.LineKind.TheVariants.{Straight, U}
use Rattle.line_rules.specs.declared.types.Mode.{Mode}
use Rattle.line_rules.specs.declared.types.Mode.TheVariants.{Fore, Back, Both}
use Rattle.line_rules.specs.declared.types.Load.{Load}

-- the mode belongs to the line kind: Fore and Back to a straight line, Both to a U-line
abbrev pub Belongs : LineKind → Mode → Type 0
Belongs Straight Fore = Unit {0}
Belongs Straight Back = Unit {0}
Belongs Straight Both = ⊥
Belongs U Fore = ⊥
Belongs U Back = ⊥
Belongs U Both = Unit {0}

-- the tasks of both parts of a load
abbrev pub taken : Load → List Bool
taken l = union l.front l.back

-- the rest of a load of R: R without the tasks of the load
abbrev pub rest : List Bool → Load → List Bool
rest R l = minus R (taken l)

-- Fore fills the front alone, Back the back alone, and Both either
abbrev pub Suits : Mode → Load → Type 0
Suits Fore l = IsEmpty l.back
Suits Back l = IsEmpty l.front
Suits Both l = Unit {0}

-- A load of R: disjoint parts of R, front and back, not both empty, with total time at most c and no two tasks apart.
-- What is in R and before a task of the front is in the front, and what is in R and after a task of the back is in the
-- back.
pub record IsLoad (line : Line) (c : ℕ) (mode : Mode) (R : List Bool) (l : Load) : Type 0 where
  pub front : IsTaskSet line l.front
  pub back : IsTaskSet line l.back
  pub suits : Suits mode l
  pub within : IsSubset (taken l) R
  pub disjoint : (i : ℕ) → In l.front i → In l.back i → ⊥
  pub some : (i : ℕ) × In (taken l) i
  pub fits : sum_where (has (taken l)) line.times ≤ c
  pub parted : (i j : ℕ) → In (taken l) i → In (taken l) j → Apart line i j → ⊥
  pub before : (i j : ℕ) → In R i → In l.front j → Before line i j → In l.front i
  pub after : (i j : ℕ) → In l.back i → In R j → Before line i j → In l.back j

-- the load with one more task in front, and with one more at the back
abbrev pub with_front : Load → ℕ → Load
with_front l i = record { front = slice_set l.front i true; back = l.back }

abbrev pub with_back : Load → ℕ → Load
with_back l i = record { front = l.front; back = slice_set l.back i true }

-- A full load: no further task of R can be added to it so that it is a load.
pub record IsFull (line : Line) (c : ℕ) (mode : Mode) (R : List Bool) (l : Load) : Type 0 where
  pub front : (i : ℕ) → In R i → has (taken l) i ≡ false → IsLoad line c mode R (with_front l i) → ⊥
  pub back : (i : ℕ) → In R i → has (taken l) i ≡ false → IsLoad line c mode R (with_back l i) → ⊥
