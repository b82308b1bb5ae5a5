-- What `balance` comes to.
use Rattle.std.specs.Prelude.{◌≡◌, ◌⊎◌, ℕ, List, Option}
use Rattle.line_instance.specs.Line.{Line, time}
use Rattle.line_rules.specs.Balance.{IsRight}
use Rattle.line_rules.specs.Bounds.{total_bound, idle_time, IsTooLong}
use Rattle.line_rules.specs.Checked.{IsLeastWhere}
use Rattle.line_rules.specs.Ranked.{IsRankedBalance}
use Rattle.line_rules.specs.declared.types.LineKind.{LineKind}
use Rattle.line_rules.specs.declared.types.Balance.{Balance as Assignment}
use Rattle.line_rules.specs.Accepted.{IsBelowAll}
use Rattle.command_outcome.specs.Outcome.{Files, Outside, Outcome, told}
use Rattle.command_outcome.specs.declared.status.Status.TheVariants as ends
use Rattle.input_files.specs.Instance.{IsSaid, IsUnsaid, naming_of}
use Rattle.station_report.specs.InfeasibleText.{infeasible_text}
use Rattle.command_balance.specs.BalanceText.{balance_text}
use Rattle.task_names.specs.declared.naming.Naming.{Naming}

-- The ranked balance of the line as one of this kind, which is right, with the bound by total time, which no balance of
-- the line lies below, and with the idle time.
pub record IsBalanced (naming : Naming) (kind : LineKind) (line : Line) (c : ℕ) (out : Outcome) : Type 0 where
  pub balance : Assignment
  pub right : IsRight kind line c balance
  pub ranked : IsRankedBalance kind line c balance
  pub bound : IsBelowAll line c (total_bound line c)
  pub shown : out ≡ told ends.Done
      (balance_text naming kind balance (total_bound line c) (idle_time line c balance.stations))

-- the least task that is longer than the cycle, with its time
pub record IsInfeasible (naming : Naming) (line : Line) (c : ℕ) (out : Outcome) : Type 0 where
  pub task : ℕ
  pub least : IsLeastWhere (IsTooLong line c) task
  pub shown : out ≡ told ends.Done (infeasible_text naming task (time line task))

-- what is answered of a line of a kind at a cycle time, whose tasks are called so
abbrev pub IsAnswer : Naming → LineKind → Line → ℕ → Outcome → Type 0
IsAnswer naming kind line c out = IsBalanced naming kind line c out ⊎ IsInfeasible naming line c out

-- the files say the line and the cycle time, and this is answered of them, with the names that the first file gives
pub record IsAnswered (files : Files) (name : List ℕ) (apart : Option (List ℕ)) (word : Option ℕ) (kind : LineKind)
    (out : Outcome) : Type 0 where
  pub line : Line
  pub c : ℕ
  pub said : IsSaid files name apart word line c
  pub answer : IsAnswer (naming_of files name) kind line c out

-- What `balance` comes to: an answer, or why the files say no line with a cycle time.
abbrev pub IsBalanceOutcome : Outside → List ℕ → Option (List ℕ) → Option ℕ → LineKind → Outcome → Type 0
IsBalanceOutcome o name apart word kind out =
    IsAnswered o.files name apart word kind out ⊎ IsUnsaid o name apart word out
