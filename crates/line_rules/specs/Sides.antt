-- The two sides of a load, in front and at the back, spoken of alike.
use Rattle.std.specs.Prelude.{◌≡◌, ℕ, ◌+◌, ◌-◌, ◌≤◌, ◌↔◌, Bool, true, false, List, slice_set, replicate}
use Rattle.line_instance.specs.Truths.{In}
use Rattle.line_instance.specs.Line.{Line, IsTaskSet, tasks, has, time, at_rank, Before, Apart}
use Rattle.line_instance.specs.Sums.{sum_where}
use Rattle.line_rules.specs.Loads.{taken}
use Rattle.line_rules.specs.declared.types.Mode.{Mode}
use Rattle.line_rules.specs.declared.types.Mode.TheVariants as mode
use Rattle.line_rules.specs.declared.types.Side.{Side}
use Rattle.line_rules.specs.declared.types.Side.TheVariants.{Front, Back}
use Rattle.line_rules.specs.declared.types.Load.{Load}

-- the tasks of one side
abbrev pub part : Side → Load → List Bool
part Front l = l.front
part Back l = l.back

-- the load with these tasks at one side
abbrev pub with_part : Side → Load → List Bool → Load
with_part Front l s = record { front = s; back = l.back }
with_part Back l s = record { front = l.front; back = s }

-- the load with the truth of i changed at one side
abbrev pub changed : Side → Load → ℕ → Bool → Load
changed s l i b = with_part s l (slice_set (part s l) i b)

-- i has to stand at a side where j does: in front where i is before j, at the back where i is after j
abbrev pub Ahead : Line → Side → ℕ → ℕ → Type 0
Ahead line Front i j = Before line i j
Ahead line Back i j = Before line j i

-- neither side has a task
abbrev pub nothing_yet : Load
nothing_yet = record { front = replicate 1024 false; back = replicate 1024 false }

-- whether loads of the mode fill a side
abbrev pub fills : Mode → Side → Bool
fills mode.Fore Front = true
fills mode.Fore Back = false
fills mode.Back Front = false
fills mode.Back Back = true
fills mode.Both s = true

-- the places of a side, from 0 to the number of tasks, among the truths of a load, and the task at each
abbrev pub spot : Line → Side → ℕ → ℕ
spot line Front p = p
spot line Back p = tasks line + p

abbrev pub task_at : Line → Side → ℕ → ℕ
task_at line Front p = at_rank line p
task_at line Back p = at_rank line (tasks line - 1 - p)

-- A task may join a side of a load of R: it is in R and not in the load, its time fits, nothing of the load is apart
-- from it, and what is ahead of it in R stands at that side.
pub record MayJoin (line : Line) (c : ℕ) (R : List Bool) (s : Side) (l : Load) (i : ℕ) : Type 0 where
  pub within : In R i
  pub new : has (taken l) i ≡ false
  pub fits : sum_where (has (taken l)) line.times + time line i ≤ c
  pub parted : (j : ℕ) → In (taken l) j → Apart line j i → ⊥
  pub ready : (j : ℕ) → In R j → Ahead line s j i → In (part s l) j

-- a task of R is ready for a side: it doesn't stand there, and all that is ahead of it in R does
pub record IsReady (line : Line) (s : Side) (R part : List Bool) (i : ℕ) : Type 0 where
  pub within : In R i
  pub new : has part i ≡ false
  pub ready : (j : ℕ) → In R j → Ahead line s j i → In part j

-- the set has the tasks that are ready for the side
pub record AreReady (line : Line) (s : Side) (R part free : List Bool) : Type 0 where
  pub is : (i : ℕ) → In free i ↔ IsReady line s R part i

-- both sides are sets of tasks
pub record AreSets (line : Line) (l : Load) : Type 0 where
  pub front : IsTaskSet line l.front
  pub back : IsTaskSet line l.back

-- the load with these tasks at the side and those at the other side
abbrev pub pair_at : Side → List Bool → List Bool → Load
pair_at Front tasks others = record { front = tasks; back = others }
pair_at Back tasks others = record { front = others; back = tasks }

-- the task's time is left, and nothing that is taken is apart from it
pub record HasRoom (line : Line) (left : ℕ) (taken : List Bool) (i : ℕ) : Type 0 where
  pub time : time line i ≤ left
  pub parted : (j : ℕ) → In taken j → Apart line j i → ⊥
