-- The least numbers that are asked for, and the certificates that prove them.
use Rattle.std.specs.Prelude.{◌≡◌, ℕ, ◌-◌, ◌<◌, ◌≤◌, List, Option, Some, None}
use Rattle.line_instance.specs.Line.{Line, tasks}
use Rattle.line_rules.specs.Balance.{IsBalance, IsRight, Holds, all_tasks}
use Rattle.line_rules.specs.Bounds.{IsTooLong}
use Rattle.line_rules.specs.Checked.{IsLeastWhere}
use Rattle.line_rules.specs.Entries.{IsDerived, HasAnswer}
use Rattle.line_rules.specs.Trails.{IsTrail}
use Rattle.line_rules.specs.Units.{UnitsWhole}
use Rattle.line_rules.specs.declared.types.LineKind.{LineKind}
use Rattle.line_rules.specs.declared.types.Seatplace.{Seatplace}
use Rattle.line_rules.specs.declared.types.Balance.{Balance as Assignment}
use Rattle.line_rules.specs.declared.types.Entry.{Entry}
use Rattle.line_rules.specs.declared.types.Trail.{Trail}
use Rattle.line_rules.specs.declared.types.Ask.{Ask}
use Rattle.line_rules.specs.declared.types.Ask.TheVariants as ask
use Rattle.line_rules.specs.declared.types.Claim.{Claim}
use Rattle.line_rules.specs.declared.types.Claim.TheVariants as claim
use Rattle.line_rules.specs.declared.types.Certificate.{Certificate}

-- all tasks have a balance in r stations at cycle c
abbrev pub HasBalance : LineKind → Line → ℕ → ℕ → Type 0
HasBalance kind line c r = (place : ℕ → Seatplace) × IsBalance kind line c (all_tasks line) r place

-- no balance of all tasks at cycle c, on a line of either kind, has fewer than b stations
abbrev pub IsBelowAll : Line → ℕ → ℕ → Type 0
IsBelowAll line c b = (kind : LineKind) (r : ℕ) → HasBalance kind line c r → b ≤ r

-- r is the least number of stations of a balance of all tasks at cycle c (Scholl's SALBP-1)
pub record IsLeastStations (kind : LineKind) (line : Line) (c r : ℕ) : Type 0 where
  pub reached : HasBalance kind line c r
  pub least : (s : ℕ) → s < r → Holds kind line c (all_tasks line) s

-- c is the least cycle from 1 at which all tasks have a balance in m stations (Scholl's SALBP-2)
pub record IsLeastCycle (kind : LineKind) (line : Line) (m c : ℕ) : Type 0 where
  pub some : 1 ≤ c
  pub reached : HasBalance kind line c m
  pub least : (d : ℕ) → 1 ≤ d → d < c → Holds kind line d (all_tasks line) m

-- the cycle and the stations of a balance that shows the upper bound
abbrev pub upper_cycle : Ask → ℕ → ℕ
upper_cycle (ask.Stations cycle) upper = cycle
upper_cycle (ask.Cycle stations) upper = upper

abbrev pub upper_stations : Ask → ℕ → ℕ
upper_stations (ask.Stations cycle) upper = upper
upper_stations (ask.Cycle stations) upper = stations

-- an entry refutes all tasks one below the lower bound: with one station less, or at a cycle less by one
abbrev pub Refutes : Line → List Entry → Ask → ℕ → Type 0
Refutes line es (ask.Stations cycle) lower = HasAnswer es (all_tasks line) (lower - 1) cycle
Refutes line es (ask.Cycle stations) lower = HasAnswer es (all_tasks line) stations (lower - 1)

-- the question that a trail of the certificate may begin with, and its cycle, lie from the lower bound up to below the
-- upper one
abbrev pub MayBegin : Ask → ℕ → ℕ → ℕ → ℕ → Type 0
MayBegin (ask.Stations cycle) lower upper X most = (X ≡ cycle) × (lower ≤ most) × (most < upper)
MayBegin (ask.Cycle stations) lower upper X most = (most ≡ stations) × (lower ≤ X) × (X < upper)

-- the trail, where there is one, is valid from a question that it may begin with
abbrev pub HasTrail : LineKind → Line → Ask → ℕ → ℕ → List Entry → Option Trail → Type 0
HasTrail kind line a lower upper es None = Unit {0}
HasTrail kind line a lower upper es (Some trail) =
    (most : ℕ) × MayBegin a lower upper trail.cycle most × IsTrail kind line trail.cycle es (all_tasks line) most
    trail.frames

-- Bounds with their proof: the entries are derived, the balance is right and shows the upper bound, an entry shows the
-- lower bound where that is above 1, and the trail is a valid one.
pub record IsProof (kind : LineKind) (line : Line) (a : Ask) (lower upper : ℕ) (b : Assignment) (es : List Entry)
    (left : Option Trail) : Type 0 where
  pub balance : IsRight kind line (upper_cycle a upper) b
  pub stations : b.stations ≡ upper_stations a upper
  pub derived : IsDerived kind line es
  pub goal : 1 < lower → Refutes line es a lower
  pub trail : HasTrail kind line a lower upper es left

-- the claim of bounds is accepted, with these units
abbrev pub ClaimIsAccepted : LineKind → Line → Ask → Claim → ℕ → ℕ → ℕ → Type 0
ClaimIsAccepted kind line a (claim.TooLong i) lower upper units = ⊥
ClaimIsAccepted kind line a (claim.Bounds l u b es trail) lower upper units =
    (lower ≡ l) × (upper ≡ u) × IsProof kind line a l u b es trail × UnitsWhole line es trail units

-- A certificate of the line is accepted with these bounds and units.
pub record IsAccepted (line : Line) (cert : Certificate) (lower upper units : ℕ) : Type 0 where
  pub tasks : cert.tasks ≡ tasks line
  pub claim : ClaimIsAccepted cert.kind line cert.ask cert.claim lower upper units

-- i is the least task longer than the cycle that is asked about
abbrev pub IsLeastTooLong : Line → Ask → ℕ → Type 0
IsLeastTooLong line (ask.Stations cycle) i = IsLeastWhere (IsTooLong line cycle) i
IsLeastTooLong line (ask.Cycle stations) i = ⊥

-- the claim that task i is too long is accepted
abbrev pub ClaimIsInfeasible : Line → Ask → Claim → ℕ → Type 0
ClaimIsInfeasible line a (claim.TooLong task) i = (i ≡ task) × IsLeastTooLong line a task
ClaimIsInfeasible line a (claim.Bounds l u b es trail) i = ⊥

-- A certificate of the line that says that there is no balance is accepted, since its task i is the least that is too
-- long.
pub record IsInfeasible (line : Line) (cert : Certificate) (i : ℕ) : Type 0 where
  pub tasks : cert.tasks ≡ tasks line
  pub claim : ClaimIsInfeasible line cert.ask cert.claim i
