-- What a mix has, told by the records of its text alone.
use Rattle.std.specs.Prelude.{◌≡◌, ◌&&◌, ℕ, ◌+◌, ◌-◌, ◌<◌, nat_eq, bytes_eq, cond, codes, List, [], ◌∷◌, length, map}
use Rattle.std.specs.Prelude.{filter_map, Option, Some, None}
use Rattle.std.specs.Option.{option_to_list}
use Rattle.line_io.specs.Lines.{value_of}
use Rattle.line_instance.specs.declared.arcs.Prec.{Prec}
use Rattle.combined_graph.specs.Mixes.{MixedLine, model_at, given_time}
use Rattle.combined_graph.specs.Records.{Fields}

-- the name and the demand, where a record is that of a model
abbrev pub model_in : Fields → Option (List ℕ × ℕ)
model_in (word ∷ name ∷ demand ∷ fourth ∷ []) = cond (bytes_eq word (codes "model")) (Some (name, value_of demand)) None
model_in fields = None

-- the time, where a record is that of this task of the model of this name; records count tasks from 1
abbrev pub time_in : List ℕ → ℕ → Fields → Option ℕ
time_in name t (word ∷ model ∷ task ∷ time ∷ []) =
    cond (bytes_eq word (codes "time") && (bytes_eq model name && nat_eq (value_of task) (t + 1)))
    (Some (value_of time)) None
time_in name t fields = None

-- the arc, where a record is that of one of the model of this name
abbrev pub arc_in : List ℕ → Fields → Option Prec
arc_in name (word ∷ model ∷ i ∷ j ∷ []) =
    cond (bytes_eq word (codes "arc") && bytes_eq model name)
    (Some (record { first = value_of i - 1; «then» = value_of j - 1 })) None
arc_in name fields = None

-- Records tell a mix: the first one the number of tasks; its models, each with a name of its own, are those of the
-- records in their order; the time of a task is that of its one record, and no time where there is none; and a model's
-- arcs are those of the records.
pub record IsMixOf (records : List Fields) (mix : MixedLine) : Type 0 where
  pub number : List ℕ
  pub rest : List Fields
  pub all : records ≡ (codes "tasks" ∷ number ∷ [] ∷ [] ∷ []) ∷ rest
  pub tasks : mix.tasks ≡ value_of number
  pub models : map (λ m. (m.name, m.demand)) mix.models ≡ filter_map model_in rest
  pub once : (j k : ℕ) → j < length mix.models → k < length mix.models
      → (model_at mix.models j).name ≡ (model_at mix.models k).name → j ≡ k
  pub times : (m t : ℕ) → m < length mix.models
      → option_to_list (given_time (model_at mix.models m) t) ≡ filter_map (time_in (model_at mix.models m).name t) rest
  pub arcs : (m : ℕ) → m < length mix.models
      → (model_at mix.models m).arcs ≡ filter_map (arc_in (model_at mix.models m).name) rest
