-- The ranges of a certificate: what its text can say, before anything in it is believed.
use Rattle.std.specs.Prelude.{◌≡◌, ℕ, ◌<◌, ◌≤◌, Bool, List, length, slice_get, Option, Some, None}
use Rattle.line_instance.specs.Truths.{In}
use Rattle.line_rules.specs.Balance.{IsSide}
use Rattle.line_rules.specs.Loads.{Suits}
use Rattle.line_rules.specs.declared.types.LineKind.{LineKind}
use Rattle.line_rules.specs.declared.types.Mode.{Mode}
use Rattle.line_rules.specs.declared.types.Seatplace.{Seatplace}
use Rattle.line_rules.specs.declared.types.Balance.{Balance as Assignment}
use Rattle.line_rules.specs.declared.types.Load.{Load}
use Rattle.line_rules.specs.declared.types.Entry.{Entry}
use Rattle.line_rules.specs.declared.types.Why.{Why}
use Rattle.line_rules.specs.declared.types.Why.TheVariants as why
use Rattle.line_rules.specs.declared.types.OpenFrame.{OpenFrame}
use Rattle.line_rules.specs.declared.types.Trail.{Trail}
use Rattle.line_rules.specs.declared.types.Ask.{Ask}
use Rattle.line_rules.specs.declared.types.Ask.TheVariants as ask
use Rattle.line_rules.specs.declared.types.Claim.{Claim}
use Rattle.line_rules.specs.declared.types.Claim.TheVariants as claim
use Rattle.line_rules.specs.declared.types.Certificate.{Certificate}

-- a cycle, or a bound on one, is 1 to 10^18
pub record IsCycle (c : ℕ) : Type 0 where
  pub some : 1 ≤ c
  pub limit : c ≤ 1000000000000000000

-- a set of some of n tasks
pub record IsOf (n : ℕ) (s : List Bool) : Type 0 where
  pub truths : length s ≡ 1024
  pub tasks : (i : ℕ) → In s i → i < n

-- the question names a cycle in its range, or 1 to 1,024 stations
abbrev pub IsAsked : Ask → Type 0
IsAsked (ask.Stations cycle) = IsCycle cycle
IsAsked (ask.Cycle stations) = (1 ≤ stations) × (stations ≤ 1024)

-- a station of the balance, at a side that the line has
pub record IsPlaced (kind : LineKind) (stations : ℕ) (p : Seatplace) : Type 0 where
  pub first : 1 ≤ p.station
  pub last : p.station ≤ stations
  pub side : IsSide kind p.side

-- 1 to 1,024 stations, and a place for each of n tasks
pub record IsPlacing (kind : LineKind) (n : ℕ) (b : Assignment) : Type 0 where
  pub some : 1 ≤ b.stations
  pub few : b.stations ≤ 1024
  pub each : length b.place ≡ n
  pub placed : (i : ℕ) (p : Seatplace) → slice_get b.place i ≡ Some p → IsPlaced kind b.stations p

-- every cite is of one of so many entries
abbrev pub AreCites : ℕ → List ℕ → Type 0
AreCites count cites = (p cite : ℕ) → slice_get cites p ≡ Some cite → cite < count

-- why an entry holds: cites of entries of the list, tasks of the line, and a set of them
abbrev pub IsWhy : ℕ → ℕ → Why → Type 0
IsWhy n count why.Bound = Unit {0}
IsWhy n count (why.Branch mode cites) = AreCites count cites
IsWhy n count (why.Swap cite out into) = (cite < count) × ((out < n) × (into < n))
IsWhy n count (why.Pairs two) = IsOf n two

-- an entry of a list of so many entries: a set of tasks, 0 to 1,024 stations, a cycle
pub record IsEntry (n count : ℕ) (e : Entry) : Type 0 where
  pub set : IsOf n e.set
  pub most : e.most ≤ 1024
  pub cycle : IsCycle e.cycle
  pub why : IsWhy n count e.why

-- at most 20,000,000 entries, each in its ranges
pub record AreEntries (n : ℕ) (es : List Entry) : Type 0 where
  pub many : length es ≤ 20000000
  pub each : (k : ℕ) (e : Entry) → slice_get es k ≡ Some e → IsEntry n (length es) e

-- two sets of tasks, one of them empty where the mode has one part alone
pub record IsLoadLike (n : ℕ) (mode : Mode) (l : Load) : Type 0 where
  pub front : IsOf n l.front
  pub back : IsOf n l.back
  pub suits : Suits mode l

-- the last load of a frame, where there is one
abbrev pub IsLast : ℕ → Mode → Option Load → Type 0
IsLast n mode None = Unit {0}
IsLast n mode (Some l) = IsLoadLike n mode l

-- a frame beside a list of so many entries: a set of tasks, 0 to 1,024 stations, a last load, cites of the list
pub record IsFrame (n count : ℕ) (f : OpenFrame) : Type 0 where
  pub set : IsOf n f.set
  pub most : f.most ≤ 1024
  pub last : IsLast n f.mode f.last
  pub cites : AreCites count f.cites

-- 1 to 1,024 frames at a cycle
pub record IsTrailLike (n count : ℕ) (t : Trail) : Type 0 where
  pub cycle : IsCycle t.cycle
  pub some : 1 ≤ length t.frames
  pub few : length t.frames ≤ 1024
  pub each : (k : ℕ) (f : OpenFrame) → slice_get t.frames k ≡ Some f → IsFrame n count f

-- a trail, where there is one
abbrev pub IsTrailOrNone : ℕ → ℕ → Option Trail → Type 0
IsTrailOrNone n count None = Unit {0}
IsTrailOrNone n count (Some t) = IsTrailLike n count t

-- that a task is too long is said of a question that names a cycle
abbrev pub NamesCycle : Ask → Type 0
NamesCycle (ask.Stations cycle) = Unit {0}
NamesCycle (ask.Cycle stations) = ⊥

-- bounds within the range of cycles, a balance with a place for each task, entries, and a trail or none
pub record AreBounds (kind : LineKind) (n lower upper : ℕ) (b : Assignment) (es : List Entry)
    (left : Option Trail) : Type 0 where
  pub from : IsCycle lower
  pub up_to : IsCycle upper
  pub balance : IsPlacing kind n b
  pub entries : AreEntries n es
  pub trail : IsTrailOrNone n (length es) left

-- what is claimed: a task of the line, after a question that names a cycle; or bounds
abbrev pub IsClaim : LineKind → ℕ → Ask → Claim → Type 0
IsClaim kind n a (claim.TooLong task) = NamesCycle a × (task < n)
IsClaim kind n a (claim.Bounds lower upper b es left) = AreBounds kind n lower upper b es left

-- A certificate within its ranges: 1 to 1,024 tasks, a question, and a claim about them. Nothing is said of what
-- follows from what.
pub record IsInRange (cert : Certificate) : Type 0 where
  pub some : 1 ≤ cert.tasks
  pub few : cert.tasks ≤ 1024
  pub ask : IsAsked cert.ask
  pub claim : IsClaim cert.kind cert.tasks cert.ask cert.claim
