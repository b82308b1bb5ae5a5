-- What the quick walk keeps from place to place, whatever load its scan began from.
use Rattle.std.proofs.Common.{ℕ, ◌≤◌, Bool, List}
use Rattle.line_instance.specs.Line.{Line, tasks}
use Rattle.line_rules.specs.declared.types.Mode.{Mode}
use Rattle.line_rules.specs.declared.types.Side.{Side}
use Rattle.line_rules.specs.declared.types.Load.{Load}
use Rattle.line_rules.specs.Sides.{pair_at, spot}
use Rattle.line_rules.specs.inner.Scan.{Scan}
use Rattle.line_rules.proofs.QuickWalk.{Advancing}

-- These stood at the side when the scan of its places began, from some load; from each such load it has come so far.
pub record AdvancingFromEach (line : Line) (c : ℕ) (mode : Mode) (R : List Bool) (s : Side)
    (first here free places others : List Bool) (below sum : ℕ) : Type 0 where
  pub low : below ≤ tasks line
  pub fits : sum ≤ c
  pub each : (base : Load) → Scan line c mode R base (pair_at s first others) (spot line s (tasks line))
      → Advancing line c mode R s base here free places others below sum

pub from_each : {line : Line} {c : ℕ} {mode : Mode} {R : List Bool} {s : Side}
    {first here free places others : List Bool} {below sum : ℕ}
    → (base : Load) × Scan line c mode R base (pair_at s first others) (spot line s (tasks line))
    → ((base : Load) → Scan line c mode R base (pair_at s first others) (spot line s (tasks line))
    → Advancing line c mode R s base here free places others below sum)
    → AdvancingFromEach line c mode R s first here free places others below sum
from_each {line} {c} {mode} {R} {s} {first} {here} {free} {places} {others} {below} {sum} some each =
    let at : Advancing line c mode R s some.0 here free places others below sum = each some.0 some.1 in
    record { low = at.low; fits = at.fits; each = each }
