-- What the files of a mix and of a balance say to a search for a sequence: how much work each model brings to each
-- station; and why they say less.
use Rattle.std.specs.Prelude.{◌≡◌, ◌⊎◌, ℕ, ◌+◌, ◌<◌, ◌≤◌, List, length, map, codes}
use Rattle.line_rules.specs.declared.types.Balance.{Balance as Assignment}
use Rattle.combined_graph.specs.Mixes.{MixedLine, model_at}
use Rattle.combined_graph.specs.Combined.{total_demand}
use Rattle.sequence_rules.specs.States.{unit_work}
use Rattle.sequence_values.specs.declared.types.Times.{Times}
use Rattle.sequence_search.specs.Tables.{demand_of, work_at}
use Rattle.command_outcome.specs.Outcome.{Files, Outside, Outcome, told}
use Rattle.command_outcome.specs.declared.status.Status.TheVariants as ends
use Rattle.mix_files.specs.inputs.InputFile.{fault_line}
use Rattle.mix_files.specs.Balanced.{IsBalanced, IsUnbalanced}

-- A table of what a mix brings to the stations of a balance: the demands of its models, and the work of a unit of each
-- model at each station.
pub record IsTimesOf (mix : MixedLine) (b : Assignment) (t : Times) : Type 0 where
  pub stations : t.stations ≡ b.stations
  pub demands : t.demands ≡ map demand_of mix.models
  pub work : (m s : ℕ) → m < length mix.models → s < b.stations
      → unit_work t m s ≡ work_at b.place (s + 1) (model_at mix.models m)

-- a search takes a mix of at most 1,000 units, and a balance of at most 64 stations
pub record IsSmall (mix : MixedLine) (b : Assignment) : Type 0 where
  pub units : total_demand mix.models ≤ 1000
  pub stations : b.stations ≤ 64

-- the files say a mix and a right straight balance of its line, both are small, and this is their table
pub record IsTimed (files : Files) (mix_name cert_name : List ℕ) (interval : ℕ) (mix : MixedLine) (t : Times)
    : Type 0 where
  pub balance : Assignment
  pub balanced : IsBalanced files mix_name cert_name interval mix balance
  pub small : IsSmall mix balance
  pub table : IsTimesOf mix balance t

-- the mix has more units, or the balance more stations, and the outcome says so
pub record IsLarge (mix_name : List ℕ) (mix : MixedLine) (b : Assignment) (out : Outcome) : Type 0 where
  pub large : (1000 < total_demand mix.models) ⊎ (64 < b.stations)
  pub shown : out ≡ told ends.Input (fault_line mix_name (codes "too large"))

-- the files say a mix and a right balance, which are too large
pub record IsTooLarge (files : Files) (mix_name cert_name : List ℕ) (interval : ℕ) (out : Outcome) : Type 0 where
  pub mix : MixedLine
  pub balance : Assignment
  pub balanced : IsBalanced files mix_name cert_name interval mix balance
  pub large : IsLarge mix_name mix balance out

-- Why the files say no table: no mix with a right balance, or one that is too large.
abbrev pub IsUntimed : Outside → List ℕ → List ℕ → ℕ → Outcome → Type 0
IsUntimed o mix_name cert_name interval out =
    IsUnbalanced o mix_name cert_name interval out ⊎ IsTooLarge o.files mix_name cert_name interval out
