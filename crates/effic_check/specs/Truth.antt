-- What an accepted certificate proves of the line: the least product of stations and cycle lies within its bounds.
use Rattle.std.specs.Prelude.{◌≡◌, ℕ, ◌*◌, ◌<◌, ◌≤◌}
use Rattle.line_instance.specs.Line.{Line}
use Rattle.line_rules.specs.Accepted.{HasBalance}
use Rattle.line_rules.specs.Balance.{Holds, all_tasks}
use Rattle.line_rules.specs.declared.types.LineKind.{LineKind}

-- all tasks have a balance in `least` to `most` stations at a cycle from 1, whose product is v
pub record IsReached (kind : LineKind) (line : Line) (least most v : ℕ) : Type 0 where
  pub stations : ℕ
  pub from : least ≤ stations
  pub to : stations ≤ most
  pub cycle : ℕ
  pub some : 1 ≤ cycle
  pub product : v ≡ stations * cycle
  pub balance : HasBalance kind line cycle stations

-- no balance in `least` to `most` stations at a cycle from 1 has a product below v
abbrev pub NoneBelow : LineKind → Line → ℕ → ℕ → ℕ → Type 0
NoneBelow kind line least most v = (m c : ℕ) → least ≤ m → m ≤ most → 1 ≤ c → m * c < v
    → Holds kind line c (all_tasks line) m

-- a balance reaches the upper bound, and none lies below the lower one
pub record IsBetween (kind : LineKind) (line : Line) (least most lower upper : ℕ) : Type 0 where
  pub reached : IsReached kind line least most upper
  pub none : NoneBelow kind line least most lower

-- v is the least product of stations and cycle in `least` to `most` stations (Scholl's SALBP-E)
pub record IsLeastProduct (kind : LineKind) (line : Line) (least most v : ℕ) : Type 0 where
  pub reached : IsReached kind line least most v
  pub least_one : NoneBelow kind line least most v
