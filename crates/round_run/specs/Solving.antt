-- What a run comes to that asks for the least number of stations.
use Rattle.std.specs.Prelude.{◌≡◌, ℕ, ◌+◌, ◌-◌, ◌*◌, ◌^◌, ◌<◌, ◌≤◌, List, [], ◌++◌, length, Some}
use Rattle.line_instance.specs.Line.{Line, tasks}
use Rattle.line_rules.specs.Accepted.{IsLeastStations}
use Rattle.line_rules.specs.Balance.{all_tasks}
use Rattle.line_rules.specs.Bounds.{bound, IsTooLong}
use Rattle.line_rules.specs.Checked.{IsLeastWhere}
use Rattle.line_rules.specs.Entries.{HasAnswer, IsUnanswered}
use Rattle.line_rules.specs.Ranked.{IsRankedBalance}
use Rattle.line_rules.specs.Trails.{IsTrail, IsOpenOver}
use Rattle.line_rules.specs.Units.{UnitsOf, UnitsIn, UnitsWhole}
use Rattle.line_rules.specs.declared.types.LineKind.{LineKind}
use Rattle.line_rules.specs.declared.types.Balance.{Balance as Assignment}
use Rattle.line_rules.specs.declared.types.Entry.{Entry}
use Rattle.line_rules.specs.declared.types.OpenFrame.{OpenFrame}
use Rattle.lemma_core.specs.Books.{BookView}
use Rattle.budget_law.specs.Budget.{states}
use Rattle.round_helpers.specs.Growth.{AreAtCycle}
use Rattle.round_run.specs.declared.plans.Plan.{Plan}
use Rattle.round_run.specs.declared.solving.Cause.TheVariants as cause
use Rattle.round_run.specs.declared.solving.Outcome.{Outcome}
use Rattle.round_run.specs.declared.solving.Outcome.TheVariants as outcome

-- The book of a run of N units at cycle c that began with some entries: it is about the line; it begins with these
-- entries, and then has those that the run added, each at the cycle; these are at most 2N + 1,025, and they and the
-- open frames have together at most 2N units.
pub record IsRunBook (kind : LineKind) (line : Line) (c N : ℕ) (before added : List Entry) (frames : List OpenFrame)
    (book : BookView) : Type 0 where
  pub about : book.about ≡ record { line = line; kind = kind; cycle = c }
  pub entries : book.state.entries ≡ before ++ added
  pub cycles : AreAtCycle c added
  pub few : length added ≤ 2 * N + 1025
  pub published : ℕ
  pub listed : ℕ
  pub entry_units : UnitsOf line added published
  pub frame_units : UnitsIn line c frames listed
  pub within : published + listed ≤ 2 * N

-- an entry of the book refutes all tasks in one station less than so many, where these are above 1
abbrev pub IsBelow : Line → ℕ → BookView → ℕ → Type 0
IsBelow line c book m = 1 < m → HasAnswer book.state.entries (all_tasks line) (m - 1) c

-- The best balance of the book has the least number of stations, and above 1 an entry of the book shows it. Without
-- helpers the entries that the run added have at most the units of the plan.
pub record IsSolvedFrom (kind : LineKind) (line : Line) (c : ℕ) (plan : Plan) (before : List Entry) (book : BookView)
    : Type 0 where
  pub added : List Entry
  pub run : IsRunBook kind line c plan.units before added [] book
  pub alone : plan.helpers ≡ 0 → run.published ≤ plan.units
  pub least : IsLeastStations kind line c book.state.best.stations
  pub goal : IsBelow line c book book.state.best.stations

-- The run stopped: the lower bound, which above 1 an entry of the book shows, is below the stations of the best
-- balance.
pub record IsStoppedFrom (kind : LineKind) (line : Line) (c N : ℕ) (before added : List Entry) (lower : ℕ)
    (book : BookView) (trail : List OpenFrame) : Type 0 where
  pub run : IsRunBook kind line c N before added trail book
  pub some : 1 ≤ lower
  pub below : lower < book.state.best.stations
  pub goal : IsBelow line c book lower

-- The units of the closing passes ended: the lower bound is at least the bound of all tasks, and the best balance has
-- no more stations than the one that the run began with; the trail is valid from all tasks in `lower` stations, and
-- open over the book; no entry of the book, those of longer cycles too, refutes all tasks in `lower` stations; the
-- entries that the run added and the trail have at least the units of the plan, exactly so many without helpers, and
-- these are fewer than the budget law allows.
pub record IsSpentFrom (kind : LineKind) (line : Line) (c : ℕ) (plan : Plan) (before : List Entry) (top lower : ℕ)
    (book : BookView) (trail : List OpenFrame) : Type 0 where
  pub added : List Entry
  pub stopped : IsStoppedFrom kind line c plan.units before added lower book trail
  pub from : bound kind line c (all_tasks line) ≤ lower
  pub best : book.state.best.stations ≤ top
  pub valid : IsTrail kind line c book.state.entries (all_tasks line) lower trail
  pub opens : IsOpenOver line c book.state.entries trail
  pub tight : IsUnanswered book.state.entries (all_tasks line) lower c
  pub listed : ℕ
  pub units : UnitsWhole line added (Some (record { cycle = c; frames = trail })) listed
  pub least : plan.units ≤ listed
  pub alone : plan.helpers ≡ 0 → listed ≡ plan.units
  pub most : listed ≤ 2 * plan.units
  pub budget : plan.units < (tasks line + 1) * states kind ^ tasks line

-- Memory ended the run: the bounds are those of a run that stopped; the lower one is at least the bound of all tasks,
-- and the best balance has no more stations than the one that the run began with.
pub record IsCutShortFrom (kind : LineKind) (line : Line) (c N : ℕ) (before : List Entry) (top lower : ℕ)
    (book : BookView) (trail : List OpenFrame) : Type 0 where
  pub added : List Entry
  pub stopped : IsStoppedFrom kind line c N before added lower book trail
  pub from : bound kind line c (all_tasks line) ≤ lower
  pub best : book.state.best.stations ≤ top

-- the same of a run that began with an empty book
abbrev pub IsSolved : LineKind → Line → ℕ → Plan → BookView → Type 0
IsSolved kind line c plan book = IsSolvedFrom kind line c plan [] book

-- the same of a run that began with an empty book and the ranked balance
pub record IsSpent (kind : LineKind) (line : Line) (c : ℕ) (plan : Plan) (lower : ℕ) (book : BookView)
    (trail : List OpenFrame) : Type 0 where
  pub top : ℕ
  pub spent : IsSpentFrom kind line c plan [] top lower book trail
  pub ranked : (b : Assignment) → IsRankedBalance kind line c b → top ≤ b.stations

-- the same of a run that memory ended
pub record IsCutShort (kind : LineKind) (line : Line) (c N lower : ℕ) (book : BookView) (trail : List OpenFrame)
    : Type 0 where
  pub top : ℕ
  pub cut_short : IsCutShortFrom kind line c N [] top lower book trail
  pub ranked : (b : Assignment) → IsRankedBalance kind line c b → top ≤ b.stations

-- no task is longer than the cycle
abbrev pub FitsAll : Line → ℕ → Type 0
FitsAll line c = (i : ℕ) → IsTooLong line c i → ⊥

-- What a run answers that began with so many entries and so many stations: a balance of the fewest stations; or bounds,
-- where the units of its closing passes ended or memory did. Out of memory is free.
abbrev pub SolvesFrom : LineKind → Line → ℕ → Plan → List Entry → ℕ → Outcome → Type 0
SolvesFrom kind line c plan before top (outcome.TooLong i) = ⊥
SolvesFrom kind line c plan before top (outcome.Solved book) = IsSolvedFrom kind line c plan before book
SolvesFrom kind line c plan before top (outcome.Stopped cause.Units lower book trail) =
    IsSpentFrom kind line c plan before top lower book trail
SolvesFrom kind line c plan before top (outcome.Stopped cause.Memory lower book trail) =
    IsCutShortFrom kind line c plan.units before top lower book trail
SolvesFrom kind line c plan before top outcome.NoMemory = Unit {0}

-- What a run answers: the least task that is longer than the cycle; else a balance of the fewest stations; or bounds,
-- where the units of its closing passes ended or memory did. Out of memory is free.
abbrev pub Solves : LineKind → Line → ℕ → Plan → Outcome → Type 0
Solves kind line c plan (outcome.TooLong i) = IsLeastWhere (IsTooLong line c) i
Solves kind line c plan (outcome.Solved book) = FitsAll line c × IsSolved kind line c plan book
Solves kind line c plan (outcome.Stopped cause.Units lower book trail) = FitsAll line c
    × IsSpent kind line c plan lower book trail
Solves kind line c plan (outcome.Stopped cause.Memory lower book trail) =
    FitsAll line c × IsCutShort kind line c plan.units lower book trail
Solves kind line c plan outcome.NoMemory = Unit {0}
