-- Mixes: several models of a product that are built on one line, each with a demand, with times and with arcs of its
-- own.
use Rattle.std.specs.Prelude.{◌≡◌, ◌||◌, ◌&&◌, ℕ, ◌<◌, ◌≤◌, Bool, true, nat_eq, nat_lt, nat_le, bytes_eq, List, []}
use Rattle.std.specs.Prelude.{length, slice_index_or, replicate, Option, None, unwrap_or, sum_by, position}
use Rattle.std.specs.Char.{is_ascii_alphanumeric}
use Rattle.std.specs.List.{All, list_all}
use Rattle.line_instance.specs.Walks.{AreArcs}
use Rattle.line_instance.specs.declared.arcs.Prec.{Prec}

-- a model: its name, how many are wanted, for each task the time where one is given, and the model's arcs
pub record LineModel : Type 0 where
  pub name : List ℕ
  pub demand : ℕ
  pub times : List (Option ℕ)
  pub arcs : List Prec

-- a mix: the number of tasks, and the models in their order
pub record MixedLine : Type 0 where
  pub tasks : ℕ
  pub models : List LineModel

-- a model of so many tasks, of which no time and no arc is given yet
abbrev pub new_model : ℕ → List ℕ → ℕ → LineModel
new_model tasks name demand = record { name = name; demand = demand; times = replicate tasks None; arcs = [] }

-- the model at a place, counted from 0
abbrev pub model_at : List LineModel → ℕ → LineModel
model_at models m = slice_index_or models m (record { name = []; demand = 0; times = []; arcs = [] })

-- the time of a task where one is given
abbrev pub given_time : LineModel → ℕ → Option ℕ
given_time model t = slice_index_or model.times t None

-- the time of a task; one that isn't given is 0
abbrev pub time_of : LineModel → ℕ → ℕ
time_of model t = unwrap_or (given_time model t) 0

-- the place of the first model of a name
abbrev pub model_named : List LineModel → List ℕ → Option ℕ
model_named models name = position (λ m. bytes_eq m.name name) models

-- how many arcs all models have together
abbrev pub arc_count : List LineModel → ℕ
arc_count models = sum_by (λ m. length m.arcs) models

-- letters, digits, `-` and `_`
abbrev pub is_name_byte : ℕ → Bool
is_name_byte b = is_ascii_alphanumeric b || (nat_eq b 45 || nat_eq b 95)

-- 1 to 32 letters, digits, `-` or `_`
abbrev pub is_name : List ℕ → Bool
is_name name = nat_lt 0 (length name) && (nat_le (length name) 32 && list_all is_name_byte name)

-- what is true of each model of so many tasks: a demand of 1 to 10,000, times up to 1,000,000,000, and arcs of these
-- tasks
pub record IsModel (tasks : ℕ) (model : LineModel) : Type 0 where
  pub name : is_name model.name ≡ true
  pub some : 0 < model.demand
  pub demand : model.demand ≤ 10000
  pub many : length model.times ≡ tasks
  pub times : (t : ℕ) → time_of model t ≤ 1000000000
  pub arcs : AreArcs tasks model.arcs

-- what is true of a mix that is being read: 1 to 1,024 tasks, at most 16 models, and at most 524,288 arcs together
pub record IsDraft (mix : MixedLine) : Type 0 where
  pub some : 0 < mix.tasks
  pub few : mix.tasks ≤ 1024
  pub models : length mix.models ≤ 16
  pub each : All (IsModel mix.tasks) mix.models
  pub arcs : arc_count mix.models ≤ 524288

-- what is true of each mix: there is a model besides
pub record IsMix (mix : MixedLine) : Type 0 where
  pub draft : IsDraft mix
  pub modeled : 0 < length mix.models
