-- The ranked balance: placements one after the other, at each step the greatest weight that a station can still take.
use Rattle.std.specs.Prelude.{◌≡◌, ℕ, suc, ◌+◌, ◌<◌, ◌≤◌, ◌⊎◌, cond, nat_eq, List, [], ◌∷◌, length}
use Rattle.line_instance.specs.Line.{Line, Before, Apart, is_before, tasks, time}
use Rattle.line_instance.specs.Sums.{sum_where}
use Rattle.line_rules.specs.Balance.{IsSide, seat}
use Rattle.line_rules.specs.declared.types.LineKind.{LineKind}
use Rattle.line_rules.specs.declared.types.Side.{Side}
use Rattle.line_rules.specs.declared.types.Side.TheVariants.{Front, Back}
use Rattle.line_rules.specs.declared.types.Seatplace.{Seatplace}
use Rattle.line_rules.specs.declared.types.Balance.{Balance as Assignment}

-- a task and the place that it is given
pub record Placement : Type 0 where
  pub task : ℕ
  pub place : Seatplace

-- p is one of the placements
abbrev pub Has : List Placement → Placement → Type 0
Has [] p = ⊥
Has (q ∷ ps) p = (p ≡ q) ⊎ Has ps p

-- the task is placed, and on this side
abbrev pub IsAt : List Placement → Side → ℕ → Type 0
IsAt ps side i = (p : Placement) × Has ps p × (p.task ≡ i) × (p.place.side ≡ side)

-- the times of the placements at a station
abbrev pub time_placed : Line → List Placement → ℕ → ℕ
time_placed line [] s = 0
time_placed line (p ∷ ps) s = cond (nat_eq p.place.station s) (time line p.task) 0 + time_placed line ps s

-- all that is before the task is placed in front, if the task is to stand in front; all that is after it is placed at
-- the back, if the task is to stand there
abbrev pub IsReady : Line → List Placement → ℕ → Side → Type 0
IsReady line ps i Front = (j : ℕ) → Before line j i → IsAt ps Front j
IsReady line ps i Back = (j : ℕ) → Before line i j → IsAt ps Back j

-- After these placements the task may be placed so: it isn't placed yet, it is ready for a side that the line has, its
-- time fits into what is left of the station, and no task of the station is apart from it.
pub record MayBePlaced (kind : LineKind) (line : Line) (c : ℕ) (ps : List Placement) (p : Placement) : Type 0 where
  pub task : p.task < tasks line
  pub new : (q : Placement) → Has ps q → q.task ≡ p.task → ⊥
  pub side : IsSide kind p.place.side
  pub ready : IsReady line ps p.task p.place.side
  pub fits : time_placed line ps p.place.station + time line p.task ≤ c
  pub parted : (q : Placement) → Has ps q → q.place.station ≡ p.place.station → Apart line q.task p.task → ⊥

-- in front a task weighs its time and the times of all tasks after it; at the back, its time and the times of all tasks
-- before it
abbrev pub weight : Line → ℕ → Side → ℕ
weight line i Front = time line i + sum_where (λ j. is_before line i j) line.times
weight line i Back = time line i + sum_where (λ j. is_before line j i) line.times

-- i at a side ranks no lower than j at another: its weight is greater; or the weights are equal, and i is less; or it
-- is the same task, and stands in front or at the same side
abbrev pub RanksFirst : Line → ℕ → Side → ℕ → Side → Type 0
RanksFirst line i side j other =
    (weight line j other < weight line i side)
    ⊎ ((weight line j other ≡ weight line i side) × ((i < j) ⊎ ((i ≡ j) × ((side ≡ Front) ⊎ (side ≡ other)))))

-- the station of the last placement, the first where there is none; the last placement stands first in the list
abbrev pub station_of : List Placement → ℕ
station_of [] = 1
station_of (p ∷ ps) = p.place.station

-- nothing more may be placed at the station
abbrev pub IsClosed : LineKind → Line → ℕ → List Placement → ℕ → Type 0
IsClosed kind line c ps s = (q : Placement) → q.place.station ≡ s → MayBePlaced kind line c ps q → ⊥

-- p comes next: it may be placed, and ranks first of all that may be placed at its station. It stands at the station of
-- the last placement, or at the next one where nothing more may be placed at that station.
pub record ComesNext (kind : LineKind) (line : Line) (c : ℕ) (ps : List Placement) (p : Placement) : Type 0 where
  pub may : MayBePlaced kind line c ps p
  pub first : (q : Placement) → q.place.station ≡ p.place.station → MayBePlaced kind line c ps q
      → RanksFirst line p.task p.place.side q.task q.place.side
  pub station : (p.place.station ≡ station_of ps) ⊎ ((p.place.station ≡ suc (station_of ps))
      × IsClosed kind line c ps (station_of ps))

-- each placement comes next after those before it; the last one stands first in the list
abbrev pub AreRanked : LineKind → Line → ℕ → List Placement → Type 0
AreRanked kind line c [] = Unit {0}
AreRanked kind line c (p ∷ ps) = ComesNext kind line c ps p × AreRanked kind line c ps

-- The ranked balance (the ranked positional weights of Helgeson and Birnie, with sides): its placements are ranked,
-- each task has one, each stands where the balance says, and the station of the last one is the balance's last.
pub record IsRankedBalance (kind : LineKind) (line : Line) (c : ℕ) (b : Assignment) : Type 0 where
  pub placed : List Placement
  pub ranked : AreRanked kind line c placed
  pub all : (i : ℕ) → i < tasks line → (p : Placement) × Has placed p × (p.task ≡ i)
  pub each : length b.place ≡ tasks line
  pub seats : (p : Placement) → Has placed p → seat b.place p.task ≡ p.place
  pub stations : b.stations ≡ station_of placed
