-- What contracts see of a walk over the loads of a set.
use Rattle.std.specs.Prelude.{◌≡◌, ℕ, Bool, true, false, List, Option, Some, None}
use Rattle.line_instance.specs.Line.{Line, IsTaskSet, has}
use Rattle.line_instance.specs.Sums.{sum_where}
use Rattle.line_rules.specs.Loads.{IsLoad, taken}
use Rattle.line_rules.specs.Order.{After}
use Rattle.line_rules.specs.Sides.{part, fills, nothing_yet}
use Rattle.line_rules.specs.declared.types.Mode.{Mode}
use Rattle.line_rules.specs.declared.types.Side.{Side}
use Rattle.line_rules.specs.declared.types.Side.TheVariants.{Front, Back}
use Rattle.line_rules.specs.declared.types.Load.{Load}
use Rattle.line_rules.specs.Ends.{IsEnd}
use Rattle.station_load.specs.declared.ends.End.{End}

-- the cycle, the mode and the set of a walk, the load that it gave last, whether it has found that none comes after it,
-- the sum of that load's times, and what it keeps of each side
pub record Walking : Type 0 where
  pub cycle : ℕ
  pub mode : Mode
  pub set : List Bool
  pub last : Option Load
  pub ended : Bool
  pub sum : ℕ
  pub front : End
  pub back : End

-- the load given last, and the empty pair before the first
abbrev pub last_load : Option Load → Load
last_load None = nothing_yet
last_load (Some l) = l

-- what is kept of a side
abbrev pub end_of : Side → Walking → End
end_of Front w = w.front
end_of Back w = w.back

-- A walk over the loads of a line: it stands at a load of its set, or before the first; the sum is that load's total
-- time, and 0 before the first; at each side stand the tasks of that load, with those beside them that are ready, for
-- each side that its loads fill; and once it has ended, no load comes after that one.
pub record IsWalk (line : Line) (w : Walking) : Type 0 where
  pub set : IsTaskSet line w.set
  pub load : (l : Load) → w.last ≡ Some l → IsLoad line w.cycle w.mode w.set l
  pub sum : w.sum ≡ sum_where (has (taken (last_load w.last))) line.times
  pub stands : (s : Side) → (end_of s w).tasks ≡ part s (last_load w.last)
  pub ready : w.ended ≡ false → (s : Side) → fills w.mode s ≡ true
      → IsEnd line s w.set (end_of s w).tasks (end_of s w).free (end_of s w).places
  pub over : w.ended ≡ true → (l : Load) → IsLoad line w.cycle w.mode w.set l → After line w.last l → ⊥

-- the load given last after a step that gave this
abbrev pub last_given : Option Load → Option Load → Option Load
last_given last None = last
last_given last (Some l) = Some l
