-- The numbers of a picture that stand for the whole line, and those that its layout follows from.
use Rattle.std.specs.Prelude.{◌≡◌, ℕ, zero, suc, ◌+◌, ◌-◌, ◌*◌, ◌/◌, ◌≤◌, ◌<◌, max, nat_lt, cond, List, [], ◌∷◌, length}
use Rattle.std.specs.Prelude.{decimal, slice_index_or, sum}
use Rattle.line_rules.specs.Bounds.{greatest_below}
use Rattle.utility_work.specs.Utility.{station_utility}
use Rattle.timeline_drawing.specs.Visits.{Course, bar_end, latest_of, name_of, row_of, row_utility, work_end}
use Rattle.timeline_drawing.specs.declared.visits.Visit.{Visit}
use Rattle.timeline_drawing.specs.declared.figures.Figures.{Figures}

-- UTIL of station k: the utility work there
abbrev pub station_sum : Course → ℕ → ℕ
station_sum d k = station_utility d.mix d.balance.place d.units d.interval d.reach (k + 1)

-- the utility work at each of n stations, from station k on
abbrev pub sums_from : Course → ℕ → ℕ → List ℕ
sums_from d k zero = []
sums_from d k (suc n) = station_sum d k ∷ sums_from d (suc k) n

-- T: the sum of all stations
abbrev pub total_of : Course → ℕ
total_of d = sum (sums_from d 0 d.balance.stations)

-- the sums of all stations, in order
pub record AreSums (d : Course) (sums : List ℕ) : Type 0 where
  pub each : length sums ≡ d.balance.stations
  pub sum : (k : ℕ) → k < d.balance.stations → slice_index_or sums k 0 ≡ station_sum d k

-- K: the number of units
abbrev pub units_of : Course → ℕ
units_of d = length d.units

-- M: the greatest of the launch interval, the station's length, and each s + p
abbrev pub scale_of : Course → ℕ
scale_of d = max (max d.interval d.reach) (greatest_below (units_of d) (λ j. latest_of (row_of d j)))

-- how many of the first n units have utility work, and B: how many have some
abbrev pub late_to : Course → ℕ → ℕ
late_to d zero = 0
late_to d (suc n) = late_to d n + cond (nat_lt 0 (row_utility (row_of d n))) 1 0

abbrev pub late_of : Course → ℕ
late_of d = late_to d (units_of d)

-- N: 2, or the greatest number of bytes of a unit's name
abbrev pub longest_name : Course → ℕ
longest_name d = max 2 (greatest_below (units_of d) (λ j. length (name_of d j)))

-- A: where the first station begins
abbrev pub left_of : Course → ℕ
left_of d = 8 * longest_name d + 72

-- R: where the sums of the units end
abbrev pub right_of : Course → ℕ
right_of d = left_of d + 136 * d.balance.stations + 8 * max 7 (length (decimal (total_of d)))

-- what a picture needs of the whole line
abbrev pub figures_of : Course → Figures
figures_of d = record {
  stations = d.balance.stations;
  units = units_of d;
  interval = d.interval;
  reach = d.reach;
  scale = scale_of d;
  total = total_of d;
  late = late_of d;
  left = left_of d;
  right = right_of d;
}

-- H: the height of the panels
abbrev pub panel_of : Figures → ℕ
panel_of f = 18 * f.units

-- X and Y: the size of the picture
abbrev pub width_of : Figures → ℕ
width_of f = max (f.right + 16) 720

abbrev pub height_of : Figures → ℕ
height_of f = panel_of f + 137

-- x: where the panel of station k begins
abbrev pub panel_x : Figures → ℕ → ℕ
panel_x f k = f.left + 136 * k

-- P: the position of a time in a panel that is M long
abbrev pub position : ℕ → ℕ → ℕ
position scale a = 120 * a / scale

-- where the bar of a visit begins in its panel and how wide it is: the work that the station's own worker does
abbrev pub bar_x : Figures → Visit → ℕ
bar_x f v = position f.scale v.start

abbrev pub bar_width : Figures → Visit → ℕ
bar_width f v = position f.scale (bar_end v) - position f.scale v.start

-- the same of the red part: the utility work
abbrev pub red_x : Figures → Visit → ℕ
red_x f v = position f.scale (bar_end v)

abbrev pub red_width : Figures → Visit → ℕ
red_width f v = position f.scale (work_end v) - position f.scale (bar_end v)

-- What is true of them: they are small, and the interval and the length fit the scale.
pub record AreFigures (f : Figures) : Type 0 where
  pub stations : f.stations ≤ 64
  pub units : f.units ≤ 1000
  pub interval : f.interval ≤ f.scale
  pub reach : f.reach ≤ f.scale
  pub least : 72 ≤ f.left
  pub left : f.left ≤ 328
  pub beyond : 16 ≤ f.right
  pub right : f.right ≤ 9192
