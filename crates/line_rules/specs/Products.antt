-- The ranges of a certificate of the least product of stations and cycle: what its text can say, before anything in it
-- is believed.
use Rattle.std.specs.Prelude.{ℕ, ◌≤◌, length}
use Rattle.line_rules.specs.Ranges.{IsCycle, IsPlacing, AreEntries, IsTrailOrNone}
use Rattle.line_rules.specs.declared.products.EfficCert.{EfficCert}

-- a product of stations and a cycle, or a bound on one, is 1 to 10^24
pub record IsProduct (v : ℕ) : Type 0 where
  pub some : 1 ≤ v
  pub limit : v ≤ 1000000000000000000000000

-- a number of stations that is asked for is 1 to 1,024
pub record IsStations (m : ℕ) : Type 0 where
  pub some : 1 ≤ m
  pub few : m ≤ 1024

-- A certificate within the ranges of its text: 1 to 1,024 tasks, both ends of the range of stations, a cycle, bounds,
-- a balance with a place for each task, entries, and a trail or none. Nothing is said of what follows from what, and
-- the ends may stand in either order.
pub record IsSayable (cert : EfficCert) : Type 0 where
  pub some : 1 ≤ cert.tasks
  pub few : cert.tasks ≤ 1024
  pub least : IsStations cert.least_m
  pub most : IsStations cert.most_m
  pub cycle : IsCycle cert.cycle
  pub lower : IsProduct cert.lower
  pub upper : IsProduct cert.upper
  pub balance : IsPlacing cert.kind cert.tasks cert.balance
  pub entries : AreEntries cert.tasks cert.entries
  pub trail : IsTrailOrNone cert.tasks (length cert.entries) cert.trail
