-- What a file says of a sequence of units, and why it says none.
use Rattle.std.specs.Prelude.{◌≡◌, ◌⊎◌, ℕ, ◌<◌, ◌≤◌, List, ◌++◌, length, map, take, Some, All, codes, decimal}
use Rattle.combined_graph.specs.Mixes.{LineModel, model_named}
use Rattle.combined_graph.specs.Sequences.{unit_names, IsNamed, IsFirstUnknown}
use Rattle.command_outcome.specs.Outcome.{Files, Outside, Outcome, told}
use Rattle.command_outcome.specs.declared.status.Status.TheVariants as ends
use Rattle.input_files.specs.InputFile.{Reads, IsUntaken, fault_line, max_file}

-- the bytes name the model of each of at most 100,000 units
pub record AreUnits (models : List LineModel) (units bytes : List ℕ) : Type 0 where
  pub named : map (model_named models) (unit_names bytes) ≡ map Some units
  pub few : length (unit_names bytes) ≤ 100000

-- what is said of a unit that names no model, and of too many units
abbrev pub unknown_text : ℕ → List ℕ
unknown_text k = codes "unit " ++ decimal k ++ codes " unknown model"

abbrev pub many_text : List ℕ
many_text = codes "too many units"

-- the outcome names the first unit without a model, which is none behind the 100,000th
pub record IsUnknownUnit (name : List ℕ) (models : List LineModel) (bytes : List ℕ) (out : Outcome) : Type 0 where
  pub unit : ℕ
  pub first : IsFirstUnknown models (unit_names bytes) unit
  pub early : unit ≤ 100000
  pub shown : out ≡ told ends.Input (fault_line name (unknown_text unit))

-- the bytes have more than 100,000 units, of which the first 100,000 name models
pub record AreManyUnits (name : List ℕ) (models : List LineModel) (bytes : List ℕ) (out : Outcome) : Type 0 where
  pub many : 100000 < length (unit_names bytes)
  pub known : All (IsNamed models) (take 100000 (unit_names bytes))
  pub shown : out ≡ told ends.Input (fault_line name many_text)

-- the file names the model of each unit
abbrev pub IsSequenceFile : Files → List ℕ → List LineModel → List ℕ → Type 0
IsSequenceFile files name models units = Reads max_file (files name) (AreUnits models units)

-- the file says no sequence: it isn't taken in, a unit names no model, or there are too many units
abbrev pub IsNoSequence : Outside → List ℕ → List LineModel → Outcome → Type 0
IsNoSequence o name models out =
    IsUntaken o max_file name out
    ⊎ Reads max_file (o.files name) (λ bytes. IsUnknownUnit name models bytes out ⊎ AreManyUnits name models bytes out)
