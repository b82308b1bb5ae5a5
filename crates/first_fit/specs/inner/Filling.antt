-- A line that is being filled, and what may join it.
use Rattle.std.specs.Prelude.{ℕ, ◌+◌, ◌-◌, ◌<◌, ◌≤◌, Bool, true, false, List, slice_set, replicate}
use Rattle.line_instance.specs.Truths.{In}
use Rattle.line_instance.specs.Line.{Line, Before, Apart, tasks, time}
use Rattle.line_rules.specs.Balance.{IsSide}
use Rattle.line_rules.specs.declared.types.LineKind.{LineKind}
use Rattle.line_rules.specs.declared.types.Side.{Side}
use Rattle.line_rules.specs.declared.types.Side.TheVariants.{Front, Back}
use Rattle.first_fit.specs.declared.filling.Choice.{Choice as Pick}
use Rattle.first_fit.specs.declared.filling.Filling.{Filling as Filled}

-- what must be in place before the task: in front all that is before it, at the back all that is after it
abbrev pub MayStand : Line → Filled → ℕ → Side → Type 0
MayStand line f i Front = (j : ℕ) → Before line j i → In f.front j
MayStand line f i Back = (j : ℕ) → Before line i j → In f.back j

-- the task isn't placed, the line has the side, what must be in place is, its time is left, and nothing of the station
-- is apart from it
pub record MayJoin (kind : LineKind) (line : Line) (f : Filled) (a : Pick) : Type 0 where
  pub task : a.task < tasks line
  pub front : In f.front a.task → ⊥
  pub back : In f.back a.task → ⊥
  pub side : IsSide kind a.side
  pub ready : MayStand line f a.task a.side
  pub fits : time line a.task ≤ f.left
  pub parted : (j : ℕ) → In f.here j → Apart line j a.task → ⊥

-- a set with the task, where the side is the set's
abbrev pub with_front : Side → List Bool → ℕ → List Bool
with_front Front s i = slice_set s i true
with_front Back s i = s

abbrev pub with_back : Side → List Bool → ℕ → List Bool
with_back Front s i = s
with_back Back s i = slice_set s i true

-- a task of time t joins the station
abbrev pub joined : Filled → Pick → ℕ → Filled
joined f a t = record {
  front = with_front a.side f.front a.task;
  back = with_back a.side f.back a.task;
  here = slice_set f.here a.task true;
  station = f.station;
  left = f.left - t;
}

-- nothing is placed, and the first station has the whole cycle
abbrev pub started : ℕ → Filled
started c = record {
  front = replicate 1024 false;
  back = replicate 1024 false;
  here = replicate 1024 false;
  station = 1;
  left = c;
}

-- the next station is empty, and has the whole cycle
abbrev pub next_station : Filled → ℕ → Filled
next_station f c = record {
  front = f.front;
  back = f.back;
  here = replicate 1024 false;
  station = f.station + 1;
  left = c;
}
