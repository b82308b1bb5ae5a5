-- What made a certificate of version 1 acceptable, part by part: kept for the law that its lift is accepted then.
use Rattle.std.specs.Prelude.{◌≡◌, ◌⊎◌, ℕ, ◌+◌, ◌-◌, ◌<◌, ◌≤◌, List, [], ◌∷◌, ◌++◌, slice_get, Some}
use Rattle.line_instance.specs.Line.{Line, tasks}
use Rattle.line_rules.specs.Accepted.{HasTrail, IsAccepted, IsInfeasible, IsLeastTooLong, upper_cycle, upper_stations}
use Rattle.line_rules.specs.Balance.{IsRight, all_tasks}
use Rattle.line_rules.specs.Entries.{IsDerived, HasAnswer}
use Rattle.line_rules.specs.Units.{UnitsWhole}
use Rattle.line_rules.specs.declared.types.LineKind.{LineKind}
use Rattle.line_rules.specs.declared.types.Balance.{Balance as Assignment}
use Rattle.line_rules.specs.declared.types.Entry.{Entry}
use Rattle.line_rules.specs.declared.types.Ask.{Ask}
use Rattle.line_rules.specs.declared.types.Ask.TheVariants as ask
use Rattle.entry_lists.specs.Lift.{trail_at, lift}
use Rattle.entry_lists.specs.declared.version_one.Part.{Part}
use Rattle.entry_lists.specs.declared.version_one.OldClaim.{OldClaim}
use Rattle.entry_lists.specs.declared.version_one.OldClaim.TheVariants as claim
use Rattle.entry_lists.specs.declared.version_one.OldCertificate.{OldCertificate}

-- A part stands by itself: each entry is at the part's cycle, and follows from those before it in the part.
pub record IsPartRight (kind : LineKind) (line : Line) (p : Part) : Type 0 where
  pub at : (k : ℕ) (e : Entry) → slice_get p.entries k ≡ Some e → e.cycle ≡ p.cycle
  pub derived : IsDerived kind line p.entries

-- the trail of a part, where it has one, is valid over the part's entries, from a question that it may begin with
abbrev pub HasPartTrail : LineKind → Line → Ask → ℕ → ℕ → Part → Type 0
HasPartTrail kind line a lower upper p = HasTrail kind line a lower upper p.entries (trail_at p.cycle p.frames)

-- Asked at a cycle c: there is one part, at c, which shows the lower bound where that is above 1.
pub record PassesAtCycle (kind : LineKind) (line : Line) (c lower upper : ℕ) (ps : List Part) : Type 0 where
  pub part : Part
  pub only : ps ≡ part ∷ []
  pub cycle : part.cycle ≡ c
  pub right : IsPartRight kind line part
  pub goal : 1 < lower → HasAnswer part.entries (all_tasks line) (lower - 1) c
  pub trail : HasPartTrail kind line (ask.Stations c) lower upper part

-- a part that shows the lower bound of a cycle for m stations: it is one below that bound, and has no trail
pub record ShowsLower (kind : LineKind) (line : Line) (m lower : ℕ) (p : Part) : Type 0 where
  pub cycle : p.cycle ≡ lower - 1
  pub right : IsPartRight kind line p
  pub goal : HasAnswer p.entries (all_tasks line) m (lower - 1)
  pub none : p.frames ≡ []

-- a part of the search that stopped: it is at a cycle from the lower bound up to below the upper one
pub record IsFurther (kind : LineKind) (line : Line) (m lower upper : ℕ) (p : Part) : Type 0 where
  pub from : lower ≤ p.cycle
  pub below : p.cycle < upper
  pub right : IsPartRight kind line p
  pub trail : HasPartTrail kind line (ask.Cycle m) lower upper p

-- no part, or one that passes
abbrev pub IsOneOrNone : (Part → Type 0) → List Part → Type 0
IsOneOrNone P ps = (ps ≡ []) ⊎ ((p : Part) × (ps ≡ p ∷ []) × P p)

-- the parts that show the lower bound: one where it is above 1, and else none
abbrev pub AreLower : LineKind → Line → ℕ → ℕ → List Part → Type 0
AreLower kind line m lower ps = ((lower ≤ 1) × (ps ≡ [])) ⊎ ((1 < lower)
    × ((p : Part) × (ps ≡ p ∷ []) × ShowsLower kind line m lower p))

-- Asked for m stations: where the lower bound is above 1 the first part shows it; one further part may stand, and no
-- other.
pub record PassesForStations (kind : LineKind) (line : Line) (m lower upper : ℕ) (ps : List Part) : Type 0 where
  pub first : List Part
  pub further : List Part
  pub all : ps ≡ first ++ further
  pub shown : AreLower kind line m lower first
  pub more : IsOneOrNone (IsFurther kind line m lower upper) further

-- the parts pass for the question
abbrev pub ArePassing : LineKind → Line → Ask → ℕ → ℕ → List Part → Type 0
ArePassing kind line (ask.Stations c) lower upper ps = PassesAtCycle kind line c lower upper ps
ArePassing kind line (ask.Cycle m) lower upper ps = PassesForStations kind line m lower upper ps

-- the units of the parts
abbrev pub PartUnits : Line → List Part → ℕ → Type 0
PartUnits line [] units = units ≡ 0
PartUnits line (p ∷ ps) units = (a : ℕ) × (b : ℕ) × (UnitsWhole line p.entries (trail_at p.cycle p.frames) a
    × PartUnits line ps b × (units ≡ a + b))

-- bounds pass: the balance is right and shows the upper one, the parts pass, and have these units
pub record ArePassingBounds (kind : LineKind) (line : Line) (a : Ask) (lower upper : ℕ) (b : Assignment)
    (ps : List Part) (walked : ℕ) : Type 0 where
  pub balance : IsRight kind line (upper_cycle a upper) b
  pub stations : b.stations ≡ upper_stations a upper
  pub parts : ArePassing kind line a lower upper ps
  pub units : PartUnits line ps walked

-- the claim of bounds passes
abbrev pub ClaimPasses : LineKind → Line → Ask → OldClaim → ℕ → ℕ → ℕ → Type 0
ClaimPasses kind line a (claim.TooLong i) lower upper units = ⊥
ClaimPasses kind line a (claim.Bounds l u b ps) lower upper units = (lower ≡ l) × (upper ≡ u)
    × ArePassingBounds kind line a l u b ps units

-- A certificate of version 1 passes, with these bounds and units.
pub record Passes (line : Line) (old : OldCertificate) (lower upper units : ℕ) : Type 0 where
  pub tasks : old.tasks ≡ tasks line
  pub claim : ClaimPasses old.kind line old.ask old.claim lower upper units

-- the claim that task i is too long passes
abbrev pub TooLongPasses : Line → Ask → OldClaim → ℕ → Type 0
TooLongPasses line a (claim.TooLong task) i = (i ≡ task) × IsLeastTooLong line a task
TooLongPasses line a (claim.Bounds l u b ps) i = ⊥

pub record PassesTooLong (line : Line) (old : OldCertificate) (i : ℕ) : Type 0 where
  pub tasks : old.tasks ≡ tasks line
  pub claim : TooLongPasses line old.ask old.claim i

-- The lift of a certificate of version 1 that passes is accepted, with the same bounds and units.
abbrev pub EveryPassingLiftIsAccepted : Type 0
EveryPassingLiftIsAccepted =
    (line : Line) (old : OldCertificate) (lower upper units : ℕ) → Passes line old lower upper units
    → IsAccepted line (lift old) lower upper units

-- the same of one that says that a task is too long
abbrev pub EveryPassingTooLongIsAccepted : Type 0
EveryPassingTooLongIsAccepted = (line : Line) (old : OldCertificate) (i : ℕ) → PassesTooLong line old i
    → IsInfeasible line (lift old) i
