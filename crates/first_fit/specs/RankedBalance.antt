-- What is answered.
use Rattle.std.specs.Prelude.{ℕ, ◌≤◌}
use Rattle.line_instance.specs.Line.{Line, tasks}
use Rattle.line_rules.specs.Balance.{IsRight}
use Rattle.line_rules.specs.Bounds.{IsTooLong}
use Rattle.line_rules.specs.Checked.{IsLeastWhere}
use Rattle.line_rules.specs.Ranked.{IsRankedBalance}
use Rattle.line_rules.specs.declared.types.LineKind.{LineKind}
use Rattle.line_rules.specs.declared.types.Balance.{Balance as Assignment}
use Rattle.first_fit.specs.declared.ranked.Ranked.{Ranked}
use Rattle.first_fit.specs.declared.ranked.Ranked.TheVariants as answers

-- the ranked balance, which is right and has at most as many stations as tasks; no task is longer than the cycle
pub record IsGood (kind : LineKind) (line : Line) (c : ℕ) (b : Assignment) : Type 0 where
  pub ranked : IsRankedBalance kind line c b
  pub right : IsRight kind line c b
  pub few : b.stations ≤ tasks line
  pub short : (i : ℕ) → IsTooLong line c i → ⊥

-- the ranked balance, or the least task that is longer than the cycle; out of memory is free
abbrev pub IsRanked : LineKind → Line → ℕ → Ranked → Type 0
IsRanked kind line c (answers.Good b) = IsGood kind line c b
IsRanked kind line c (answers.TooLong i) = IsLeastWhere (IsTooLong line c) i
IsRanked kind line c answers.NoMemory = Unit {0}
