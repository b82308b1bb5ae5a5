-- What is true of a picture: where its segments stand, and what its numbers are.
use Rattle.std.specs.Prelude.{◌≡◌, ℕ, zero, suc, ◌+◌, ◌-◌, ◌*◌, ◌<◌, ◌≤◌, List, filter, length, slice_get, Some}
use Rattle.line_instance.specs.Line.{Line, Before, tasks, time}
use Rattle.line_rules.specs.Accepted.{upper_cycle}
use Rattle.line_rules.specs.Balance.{IsRight, seat}
use Rattle.line_rules.specs.declared.types.LineKind.{LineKind}
use Rattle.line_rules.specs.declared.types.Side.{Side}
use Rattle.line_rules.specs.declared.types.Side.TheVariants.{Front, Back}
use Rattle.line_rules.specs.declared.types.Seatplace.{Seatplace}
use Rattle.line_rules.specs.declared.types.Balance.{Balance as Assignment}
use Rattle.line_rules.specs.declared.types.Ask.{Ask}
use Rattle.line_rules.specs.declared.types.Claim.{Claim}
use Rattle.line_rules.specs.declared.types.Claim.TheVariants.{TooLong, Bounds}
use Rattle.line_rules.specs.declared.types.Certificate.{Certificate}
use Rattle.line_drawing.specs.Segments.{end_of, segments_at}
use Rattle.line_drawing.specs.Figures.{efficiency_of, figures_of, idle_of, sum_at}
use Rattle.line_drawing.specs.Rows.{is_of}
use Rattle.line_drawing.specs.declared.segments.Segment.{Segment}

-- what is claimed has a balance, and that is right at the cycle time that it shows
abbrev pub ClaimIsRight : LineKind → Line → Ask → Claim → Type 0
ClaimIsRight kind line a (TooLong task) = ⊥
ClaimIsRight kind line a (Bounds lower upper b es trail) = IsRight kind line (upper_cycle a upper) b

-- the certificate has a right balance of the line
abbrev pub HasRightBalance : Line → Certificate → Type 0
HasRightBalance line cert = ClaimIsRight cert.kind line cert.ask cert.claim

-- the segments of a side
abbrev pub on : Side → List Segment → List Segment
on side segments = filter (is_of side) segments

-- a segment is of a task of the station, on its side and with its time
pub record IsOfTask (line : Line) (places : List Seatplace) (k : ℕ) (s : Segment) : Type 0 where
  pub task : s.task < tasks line
  pub station : (seat places s.task).station ≡ k
  pub side : s.side ≡ (seat places s.task).side
  pub time : s.time ≡ time line s.task

-- the segment is nearly as long as its time: less than a unit of the picture more or less
pub record IsTrueLength (cycle : ℕ) (s : Segment) : Type 0 where
  pub above : cycle * s.width < 800 * s.time + cycle
  pub below : 800 * s.time < cycle * s.width + cycle

-- each segment ends where the next one begins
abbrev pub Meet : List Segment → Type 0
Meet segments = (p : ℕ) (s r : Segment) → slice_get segments p ≡ Some s → slice_get segments (p + 1) ≡ Some r
    → end_of s ≡ r.x

-- The segments of a station: one of each of its tasks, on its side. Those in front begin at 0 and meet, those at the
-- back meet and end at 800, and none overlap. Each is nearly as long as its time. Of two tasks of which one is before
-- the other, the earlier one's segment ends where or before the later one's begins.
pub record AreTrue (line : Line) (cycle : ℕ) (places : List Seatplace) (station : ℕ)
    (segments : List Segment) : Type 0 where
  pub each : (p : ℕ) (s : Segment) → slice_get segments p ≡ Some s → IsOfTask line places station s
  pub all : (i : ℕ) → i < tasks line → (seat places i).station ≡ station
      → (p : ℕ) × ((s : Segment) × (slice_get segments p ≡ Some s) × (s.task ≡ i))
  pub once : (p q : ℕ) (s r : Segment) → slice_get segments p ≡ Some s → slice_get segments q ≡ Some r → s.task ≡ r.task
      → p ≡ q
  pub front_begins : (s : Segment) → slice_get (on Front segments) 0 ≡ Some s → s.x ≡ 0
  pub front_meets : Meet (on Front segments)
  pub back_meets : Meet (on Back segments)
  pub back_ends : (p : ℕ) (s : Segment) → slice_get (on Back segments) p ≡ Some s → p + 1 ≡ length (on Back segments)
      → end_of s ≡ 800
  pub within : (p : ℕ) (s : Segment) → slice_get segments p ≡ Some s → end_of s ≤ 800
  pub clear : (p q : ℕ) (s r : Segment) → slice_get segments p ≡ Some s → slice_get segments q ≡ Some r → p < q
      → end_of s ≤ r.x
  pub lengths : (p : ℕ) (s : Segment) → slice_get segments p ≡ Some s → IsTrueLength cycle s
  pub ordered : (p q : ℕ) (s r : Segment) → slice_get segments p ≡ Some s → slice_get segments q ≡ Some r
      → Before line s.task r.task → end_of s ≤ r.x

-- the idle times of the first n stations together
abbrev pub idle_to : Line → ℕ → List Seatplace → ℕ → ℕ
idle_to line cycle places zero = 0
idle_to line cycle places (suc n) = idle_to line cycle places n + (cycle - sum_at line places (suc n))

-- The numbers: no station has more time than the cycle, the idle times of the stations are that of the line together,
-- the efficiency is at most 100 percent, and that only where nothing is idle.
pub record AreTrueNumbers (line : Line) (kind : LineKind) (cycle : ℕ) (b : Assignment) : Type 0 where
  pub fits : (station : ℕ) → sum_at line b.place station ≤ cycle
  pub idle : idle_to line cycle b.place b.stations ≡ idle_of (figures_of line kind cycle b)
  pub percent : efficiency_of (figures_of line kind cycle b) ≤ 1000
  pub full : efficiency_of (figures_of line kind cycle b) ≡ 1000 → idle_of (figures_of line kind cycle b) ≡ 0

-- the picture of a balance at a cycle time is true
pub record IsTruePicture (line : Line) (kind : LineKind) (cycle : ℕ) (b : Assignment) : Type 0 where
  pub stations : (station : ℕ) → AreTrue line cycle b.place station (segments_at line cycle b.place station)
  pub numbers : AreTrueNumbers line kind cycle b

-- the same of what is claimed
abbrev pub ClaimIsTrue : Line → LineKind → Ask → Claim → Type 0
ClaimIsTrue line kind a (TooLong task) = Unit {0}
ClaimIsTrue line kind a (Bounds lower upper b es trail) = IsTruePicture line kind (upper_cycle a upper) b

-- The picture of a certificate is true of the line.
abbrev pub IsTrueDrawing : Line → Certificate → Type 0
IsTrueDrawing line cert = ClaimIsTrue line cert.kind cert.ask cert.claim

-- how many stations the balance of a claim has, and of a certificate
abbrev pub claim_stations : Claim → ℕ
claim_stations (TooLong task) = 0
claim_stations (Bounds lower upper b es trail) = b.stations

abbrev pub stations_of : Certificate → ℕ
stations_of cert = claim_stations cert.claim
