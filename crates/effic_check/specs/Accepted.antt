-- When a certificate of the least product of stations and cycle is accepted (Scholl's SALBP-E, over a range of
-- stations).
use Rattle.std.specs.Prelude.{◌≡◌, ℕ, ◌-◌, ◌*◌, ◌/◌, ◌<◌, ◌≤◌, List, Option, Some, None}
use Rattle.line_instance.specs.Line.{Line, Apart, tasks}
use Rattle.line_rules.specs.Balance.{IsRight, all_tasks}
use Rattle.line_rules.specs.Entries.{IsDerived, HasAnswer}
use Rattle.line_rules.specs.Trails.{IsTrail}
use Rattle.line_rules.specs.Units.{UnitsWhole}
use Rattle.line_rules.specs.declared.types.LineKind.{LineKind}
use Rattle.line_rules.specs.declared.types.Entry.{Entry}
use Rattle.line_rules.specs.declared.types.Trail.{Trail}
use Rattle.line_rules.specs.declared.products.EfficCert.{EfficCert}

-- no two tasks are apart
abbrev pub NoneApart : Line → Type 0
NoneApart line = (i j : ℕ) → Apart line i j → ⊥

-- m is one of the numbers of stations that are asked for
abbrev pub IsAsked : EfficCert → ℕ → Type 0
IsAsked cert m = (cert.least_m ≤ m) × (m ≤ cert.most_m)

-- the greatest cycle whose product with m is below a bound
abbrev pub cycle_below : ℕ → ℕ → ℕ
cycle_below bound m = (bound - 1) / m

-- the greatest cycle whose product with m is below the bound is 0, or an entry refutes all tasks in m stations at it
abbrev pub IsClosed : Line → List Entry → ℕ → ℕ → Type 0
IsClosed line es bound m = 1 ≤ cycle_below bound m → HasAnswer es (all_tasks line) m (cycle_below bound m)

-- a trail at cycle X may begin with the question of m stations: m is asked for, and its product with X is below the
-- upper bound
abbrev pub MayBegin : EfficCert → ℕ → ℕ → Type 0
MayBegin cert X m = IsAsked cert m × (m * X < cert.upper)

-- the trail, where there is one, is valid from a question that it may begin with
abbrev pub HasTrail : LineKind → Line → EfficCert → Option Trail → Type 0
HasTrail kind line cert None = Unit {0}
HasTrail kind line cert (Some trail) = (m : ℕ) × MayBegin cert trail.cycle m
    × IsTrail kind line trail.cycle cert.entries (all_tasks line) m trail.frames

-- The balance shows the upper bound: its stations are asked for, it is right at the cycle, and the bound is the
-- product of both.
pub record ShowsUpper (line : Line) (cert : EfficCert) : Type 0 where
  pub asked : IsAsked cert cert.balance.stations
  pub right : IsRight cert.kind line cert.cycle cert.balance
  pub upper : cert.upper ≡ cert.balance.stations * cert.cycle

-- A certificate of the line is accepted with so many units: it is of as many tasks, the balance shows the upper bound,
-- the entries are
-- derived and close each number of stations that is asked for below the lower bound, and the trail is a valid one.
pub record IsAccepted (line : Line) (cert : EfficCert) (units : ℕ) : Type 0 where
  pub tasks : cert.tasks ≡ tasks line
  pub shown : ShowsUpper line cert
  pub derived : IsDerived cert.kind line cert.entries
  pub closed : (m : ℕ) → IsAsked cert m → IsClosed line cert.entries cert.lower m
  pub trail : HasTrail cert.kind line cert cert.trail
  pub spent : UnitsWhole line cert.entries cert.trail units
