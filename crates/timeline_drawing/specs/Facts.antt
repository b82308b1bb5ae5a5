-- What is true of a picture: where its bars and red parts stand, and what its sums are.
use Rattle.std.specs.Prelude.{Bool, ◌&&◌, nat_eq, nat_lt, cond, List, [], ◌∷◌, ◌≡◌, ℕ, zero, suc, ◌+◌, ◌-◌, ◌*◌, ◌<◌}
use Rattle.std.specs.Prelude.{◌≤◌, length, slice_index_or}
use Rattle.timeline_drawing.specs.Visits.{Course, bar_end, row_of, row_utility, visit_at}
use Rattle.timeline_drawing.specs.Figures.{bar_width, bar_x, figures_of, position, red_width, red_x, station_sum}
use Rattle.timeline_drawing.specs.Figures.{total_of}
use Rattle.timeline_drawing.specs.Figures.{units_of}
use Rattle.timeline_drawing.specs.Rows.{has_utility, has_work}
use Rattle.timeline_drawing.specs.declared.visits.Visit.{Visit}
use Rattle.timeline_drawing.specs.declared.figures.Figures.{Figures}

-- the width differs from the time's share of 120 by less than one unit of the picture
pub record IsTrueWidth (scale width time : ℕ) : Type 0 where
  pub above : scale * width < 120 * time + scale
  pub below : 120 * time < scale * width + scale

-- Bar and red part of a visit lie in 0 to 120 of their panel, and the red part begins where the bar ends, at the
-- station's end. Bar and red part are the work, and each is as wide as its time: that of the station's own worker, and
-- the utility work.
pub record AreTrueShapes (f : Figures) (v : Visit) : Type 0 where
  pub meet : bar_x f v + bar_width f v ≡ red_x f v
  pub bar_within : bar_x f v + bar_width f v ≤ 120
  pub red_within : red_x f v + red_width f v ≤ 120
  pub red_begins : 0 < v.utility → red_x f v ≡ position f.scale f.reach
  pub together : (bar_end v - v.start) + v.utility ≡ v.work
  pub bar_width : 1 ≤ f.scale → IsTrueWidth f.scale (bar_width f v) (bar_end v - v.start)
  pub red_width : 1 ≤ f.scale → IsTrueWidth f.scale (red_width f v) v.utility

-- how many visits of a row that are of station k pass a test
abbrev pub shown_at : (Visit → Bool) → ℕ → List Visit → ℕ
shown_at p k [] = 0
shown_at p k (v ∷ vs) = cond (nat_eq v.station k && p v) 1 0 + shown_at p k vs

-- The row of a unit has the unit once at each station, in the order of the stations, as utility work tells it. At each
-- station there is one bar where the unit has work, and none else; and one red part where it has utility work, and none
-- else.
pub record IsTrueRow (d : Course) (j : ℕ) : Type 0 where
  pub each : length (row_of d j) ≡ d.balance.stations
  pub visit : (k : ℕ) (v : Visit) → k < d.balance.stations → slice_index_or (row_of d j) k v ≡ visit_at d k j
  pub bars : (k : ℕ) → k < d.balance.stations
      → shown_at has_work k (row_of d j) ≡ cond (nat_lt 0 (visit_at d k j).work) 1 0
  pub reds : (k : ℕ) → k < d.balance.stations
      → shown_at has_utility k (row_of d j) ≡ cond (nat_lt 0 (visit_at d k j).utility) 1 0

-- the utility work of the first n units at station k
abbrev pub column_utility : Course → ℕ → ℕ → ℕ
column_utility d k zero = 0
column_utility d k (suc n) = column_utility d k n + (visit_at d k n).utility

-- the sums at the right of the first n rows together
abbrev pub rows_utility : Course → ℕ → ℕ
rows_utility d zero = 0
rows_utility d (suc n) = rows_utility d n + row_utility (row_of d n)

-- The sums: the sum below a station, which is its utility work, is that of its red parts, and the sums at the right are
-- together the sum of all.
pub record AreTrueSums (d : Course) : Type 0 where
  pub below : (k : ℕ) → column_utility d k (units_of d) ≡ station_sum d k
  pub rows : rows_utility d (units_of d) ≡ total_of d

-- The picture of a timeline is true.
pub record IsTruePicture (d : Course) : Type 0 where
  pub rows : (j : ℕ) → IsTrueRow d j
  pub shapes : (k j : ℕ) → k < d.balance.stations → j < units_of d → AreTrueShapes (figures_of d) (visit_at d k j)
  pub sums : AreTrueSums d
