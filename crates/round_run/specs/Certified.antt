-- Certificates that runs for the least number of stations make of a line at a cycle.
use Rattle.std.specs.Prelude.{◌≡◌, ◌⊎◌, ℕ, ◌+◌, ◌-◌, ◌*◌, ◌^◌, ◌<◌, ◌≤◌, List, [], ◌++◌, length, slice_get, Option, Some}
use Rattle.std.specs.Prelude.{None}
use Rattle.line_instance.specs.Line.{Line, tasks}
use Rattle.line_rules.specs.Accepted.{IsAccepted, IsInfeasible, IsLeastStations}
use Rattle.line_rules.specs.Balance.{IsRight, all_tasks}
use Rattle.line_rules.specs.Bounds.{bound}
use Rattle.line_rules.specs.Entries.{IsFresh, IsUnanswered}
use Rattle.line_rules.specs.Laws.{IsProved, NoBalanceIsLeft}
use Rattle.line_rules.specs.Ranges.{IsInRange}
use Rattle.line_rules.specs.Trails.{IsOpenOver, IsTrail}
use Rattle.line_rules.specs.Units.{UnitsOf, UnitsWhole}
use Rattle.line_rules.specs.declared.types.LineKind.{LineKind}
use Rattle.line_rules.specs.declared.types.Balance.{Balance as Assignment}
use Rattle.line_rules.specs.declared.types.Entry.{Entry}
use Rattle.line_rules.specs.declared.types.OpenFrame.{OpenFrame}
use Rattle.line_rules.specs.declared.types.Trail.{Trail}
use Rattle.line_rules.specs.declared.types.Ask.TheVariants as ask
use Rattle.line_rules.specs.declared.types.Claim.{Claim}
use Rattle.line_rules.specs.declared.types.Claim.TheVariants as claim
use Rattle.line_rules.specs.declared.types.Certificate.{Certificate}
use Rattle.entry_lists.specs.Trim.{IsTrimmed}
use Rattle.budget_law.specs.Budget.{states}
use Rattle.round_helpers.specs.Growth.{AreAtCycle}
use Rattle.round_run.specs.declared.plans.Plan.{Plan}

-- the most units that a certificate may have, so that the check walks them with its default steps
abbrev pub max_units : ℕ
max_units = 20000000

-- a certificate about the stations of a line at cycle c, with a claim
abbrev pub about_stations : LineKind → Line → ℕ → Claim → Certificate
about_stations kind line c said = record { kind = kind; tasks = tasks line; ask = ask.Stations c; claim = said }

-- A certificate of bounds: it claims `lower`, the stations of the balance as the upper bound, the balance, these
-- entries and this trail. A text can say it; its balance is right; the check accepts it, with so many units, which are
-- few enough for the default steps; and its bounds are true.
pub record IsCertified (kind : LineKind) (line : Line) (c lower : ℕ) (b : Assignment) (es : List Entry)
    (trail : Option Trail)
    (units : ℕ) (cert : Certificate) : Type 0 where
  pub said : cert ≡ about_stations kind line c (claim.Bounds lower b.stations b es trail)
  pub sayable : IsInRange cert
  pub right : IsRight kind line c b
  pub accepted : IsAccepted line cert lower b.stations units
  pub few : units ≤ max_units
  pub true_bounds : IsProved kind line (ask.Stations c) lower b.stations

-- each entry is at cycle c, or at the cycle of one of those before
abbrev pub AreAtOrAs : ℕ → List Entry → List Entry → Type 0
AreAtOrAs c before es =
    (k : ℕ) (e : Entry) → slice_get es k ≡ Some e
    → (e.cycle ≡ c) ⊎ ((j : ℕ) × (x : Entry) × ((slice_get before j ≡ Some x) × (e.cycle ≡ x.cycle)))

-- each entry is at the cycle of an entry of the other list
abbrev pub HaveCyclesOf : List Entry → List Entry → Type 0
HaveCyclesOf es new =
    (k : ℕ) (e : Entry) → slice_get new k ≡ Some e
    → (j : ℕ) × (x : Entry) × ((slice_get es j ≡ Some x) × (e.cycle ≡ x.cycle))

-- The entries with which a run of N units began: a certificate has room for them beside those of the run, and so have
-- the default steps for their units.
pub record LeaveRoom (line : Line) (N : ℕ) (before : List Entry) : Type 0 where
  pub units : ℕ
  pub counted : UnitsOf line before units
  pub paid : units + 2 * N ≤ max_units
  pub few : length before + 2 * N + 1025 ≤ 20000000

-- What the units of a certificate are paid by: beside those of the entries with which the run began, they are at most
-- twice the units of the plan, and at most these without helpers.
pub record ArePaid (line : Line) (plan : Plan) (before : List Entry) (units : ℕ) : Type 0 where
  pub begun : ℕ
  pub before_units : UnitsOf line before begun
  pub paid : units ≤ begun + 2 * plan.units
  pub alone : plan.helpers ≡ 0 → units ≤ begun + plan.units

-- The entries that show a lower bound of so many stations: none, where that is 1; else those that are left of a list of
-- which the first entry that refutes all tasks in one station less is kept, and all that it stands on.
abbrev pub AreProof : Line → ℕ → ℕ → List Entry → Type 0
AreProof line c lower es = (lower ≤ 1 → es ≡ [])
    × (1 < lower → (whole : List Entry) × IsTrimmed whole (all_tasks line) (lower - 1) c es)

-- The certificate of an optimum, of a run that began with some entries: both its bounds are the least number of
-- stations, and it has no trail; its entries are the proof alone, at cycle c or at cycles of those with which the run
-- began, and at most 1,025 more than these and twice the units; and its units are paid for.
pub record IsOptimumFrom (kind : LineKind) (line : Line) (c : ℕ) (plan : Plan) (before : List Entry) (b : Assignment)
    (cert : Certificate) : Type 0 where
  pub entries : List Entry
  pub units : ℕ
  pub certified : IsCertified kind line c b.stations b entries None units cert
  pub least : IsLeastStations kind line c b.stations
  pub proof : AreProof line c b.stations entries
  pub spent : ArePaid line plan before units
  pub cycles : AreAtOrAs c before entries
  pub few : length entries ≤ length before + 2 * plan.units + 1025

-- The certificate of a search that began with some entries and used the units of its plan: its bounds differ; its
-- entries, of which none is answered by an earlier one, begin with those, and the others are at cycle c, at most 1,025
-- more than twice the units; these others and its trail have at least the units of the plan, at most twice as many, and
-- exactly so many without helpers; the lower bound is at least the bound of all tasks; the trail asks whether all tasks
-- have a balance in as many stations, and is open over the entries; no entry, of a longer cycle neither, refutes that;
-- and the units of the plan are below what the budget law allows.
pub record IsStopFrom (kind : LineKind) (line : Line) (c : ℕ) (plan : Plan) (before : List Entry) (lower : ℕ)
    (b : Assignment) (cert : Certificate) : Type 0 where
  pub entries : List Entry
  pub added : List Entry
  pub frames : List OpenFrame
  pub units : ℕ
  pub certified : IsCertified kind line c lower b entries (Some (record { cycle = c; frames = frames })) units cert
  pub begins : entries ≡ before ++ added
  pub cycles : AreAtCycle c added
  pub few : length added ≤ 2 * plan.units + 1025
  pub below : lower < b.stations
  pub from : bound kind line c (all_tasks line) ≤ lower
  pub asks : IsTrail kind line c entries (all_tasks line) lower frames
  pub paid : ℕ
  pub before_units : UnitsOf line before paid
  pub listed : ℕ
  pub counted : UnitsWhole line added (Some (record { cycle = c; frames = frames })) listed
  pub sum : units ≡ paid + listed
  pub least : plan.units ≤ listed
  pub most : listed ≤ 2 * plan.units
  pub alone : plan.helpers ≡ 0 → listed ≡ plan.units
  pub fresh : IsFresh entries
  pub opens : IsOpenOver line c entries frames
  pub tight : IsUnanswered entries (all_tasks line) lower c
  pub budget : plan.units < (tasks line + 1) * states kind ^ tasks line

-- the same of a run that began with an empty book
abbrev pub IsOptimum : LineKind → Line → ℕ → Plan → Assignment → Certificate → Type 0
IsOptimum kind line c plan b cert = IsOptimumFrom kind line c plan [] b cert

abbrev pub IsStop : LineKind → Line → ℕ → Plan → ℕ → Assignment → Certificate → Type 0
IsStop kind line c plan lower b cert = IsStopFrom kind line c plan [] lower b cert

-- The certificate that there is no balance, in any number of stations: it names the least task that is longer than the
-- cycle.
pub record IsNoBalance (kind : LineKind) (line : Line) (c task : ℕ) (cert : Certificate) : Type 0 where
  pub said : cert ≡ about_stations kind line c (claim.TooLong task)
  pub sayable : IsInRange cert
  pub accepted : IsInfeasible line cert task
  pub none : NoBalanceIsLeft (ask.Stations c) kind line
