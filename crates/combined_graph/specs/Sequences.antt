-- Sequences: texts with the name of a model on each line that isn't empty, one for each unit.
use Rattle.std.specs.Prelude.{◌≡◌, ℕ, ◌-◌, ◌<◌, ◌≤◌, List, [], length, take, map, slice_index_or, Some, None, IsSome}
use Rattle.std.specs.Prelude.{All}
use Rattle.in2_reader.specs.Contents.{contents_from}
use Rattle.combined_graph.specs.Mixes.{LineModel, model_named}
use Rattle.combined_graph.specs.declared.sequence.SeqRead.{SeqRead}
use Rattle.combined_graph.specs.declared.sequence.SeqRead.TheVariants.{Good, UnknownModel, TooManyUnits, NoMemory}

-- the names of the units: the contents of a text's lines that aren't empty
abbrev pub unit_names : List ℕ → List (List ℕ)
unit_names text = map (λ l. l.1) (contents_from 1 text)

-- a name is that of a model
abbrev pub IsNamed : List LineModel → List ℕ → Type 0
IsNamed models name = IsSome (model_named models name)

-- unit k, counted from 1, is the first one that names no model
pub record IsFirstUnknown (models : List LineModel) (names : List (List ℕ)) (k : ℕ) : Type 0 where
  pub some : 0 < k
  pub unit : k ≤ length names
  pub unknown : model_named models (slice_index_or names (k - 1) []) ≡ None
  pub known : All (IsNamed models) (take (k - 1) names)

-- Each answer with its cause: the model of each of at most 100,000 units; the first unit without a model, which is none
-- behind the 100,000th; or there are more units, and the first 100,000 are known.
abbrev pub IsSequenceRead : List LineModel → List ℕ → SeqRead → Type 0
IsSequenceRead models text (Good units) = (map (model_named models) (unit_names text) ≡ map Some units.items)
    × (length (unit_names text) ≤ 100000)
IsSequenceRead models text (UnknownModel k) = IsFirstUnknown models (unit_names text) k × (k ≤ 100000)
IsSequenceRead models text TooManyUnits = (100000 < length (unit_names text))
    × All (IsNamed models) (take 100000 (unit_names text))
IsSequenceRead models text NoMemory = Unit {0}

-- the units that are read are of models of the mix
abbrev pub AreOfModels : ℕ → SeqRead → Type 0
AreOfModels models (Good units) = All (λ m. m < models) units.items
AreOfModels models (UnknownModel k) = Unit {0}
AreOfModels models TooManyUnits = Unit {0}
AreOfModels models NoMemory = Unit {0}
