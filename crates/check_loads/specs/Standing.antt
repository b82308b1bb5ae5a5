-- A walk over the loads of a set, and the load that it has come to.
use Rattle.std.specs.Prelude.{◌≡◌, ℕ, Bool, true, false, cond, List, Option, Some, None}
use Rattle.line_instance.specs.Line.{Line, has}
use Rattle.line_instance.specs.Sums.{sum_where}
use Rattle.line_rules.specs.Loads.{IsLoad, taken}
use Rattle.line_rules.specs.Sides.{fills, nothing_yet}
use Rattle.line_rules.specs.declared.types.Mode.{Mode}
use Rattle.line_rules.specs.declared.types.Side.{Side}
use Rattle.line_rules.specs.declared.types.Side.TheVariants.{Front, Back}
use Rattle.line_rules.specs.declared.types.Load.{Load}
use Rattle.line_rules.specs.Ends.{IsEnd}
use Rattle.check_loads.specs.declared.ends.End.{End}
use Rattle.check_loads.specs.declared.loads.Walk.{Walk}

-- the load that the walk has come to, and the empty pair before the first
abbrev pub stand : Walk → Load
stand w = record { front = w.front.tasks; back = w.back.tasks }

-- what is kept of a side
abbrev pub end_of : Side → Walk → End
end_of Front w = w.front
end_of Back w = w.back

-- the load given last
abbrev pub last_of : Walk → Option Load
last_of w = cond w.given (Some (stand w)) None

-- A walk over the loads of R: it has come to one of them, or is before the first; the sum is that load's total time;
-- and with the tasks of each side stand those that are free to join it, for each side that the loads fill.
pub record IsWalk (line : Line) (c : ℕ) (mode : Mode) (R : List Bool) (w : Walk) : Type 0 where
  pub load : w.given ≡ true → IsLoad line c mode R (stand w)
  pub nothing : w.given ≡ false → stand w ≡ nothing_yet
  pub sum : w.sum ≡ sum_where (has (taken (stand w))) line.times
  pub kept : (s : Side) → fills mode s ≡ true → IsEnd line s R (end_of s w).tasks (end_of s w).free (end_of s w).places
