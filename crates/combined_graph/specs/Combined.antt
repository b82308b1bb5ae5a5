-- The instance that a mix combines to (Scholl, scaled to whole numbers).
use Rattle.std.specs.Prelude.{◌≡◌, ℕ, ◌*◌, ◌<◌, List, sum_by}
use Rattle.std.specs.List.{flat_map}
use Rattle.line_instance.specs.Line.{Line, tasks, time}
use Rattle.line_instance.specs.Made.{IsInstanceOf}
use Rattle.line_instance.specs.Walks.{IsRing}
use Rattle.line_instance.specs.declared.arcs.Prec.{Prec}
use Rattle.combined_graph.specs.Mixes.{LineModel, MixedLine, time_of}
use Rattle.combined_graph.specs.declared.combining.Combined.{Combined as Answer}
use Rattle.combined_graph.specs.declared.combining.Combined.TheVariants.{Good, Cycle, NoMemory}

-- the time of a task in the combined instance: the sum over the models of demand times time
abbrev pub combined_time : List LineModel → ℕ → ℕ
combined_time models t = sum_by (λ m. m.demand * time_of m t) models

-- the arcs of all models
abbrev pub all_arcs : List LineModel → List Prec
all_arcs models = flat_map (λ m. m.arcs) models

-- how many units are wanted
abbrev pub total_demand : List LineModel → ℕ
total_demand models = sum_by (λ m. m.demand) models

-- the combined instance: each task's combined time, and a task before another where a walk along arcs of any models
-- leads to it
pub record IsCombined (mix : MixedLine) (line : Line) : Type 0 where
  pub tasks : tasks line ≡ mix.tasks
  pub times : (t : ℕ) → t < mix.tasks → time line t ≡ combined_time mix.models t
  pub made : IsInstanceOf line.times (all_arcs mix.models) line

-- Each answer with its cause: the combined instance and the total demand, or a closed walk along arcs of any models.
abbrev pub IsCombinedAs : MixedLine → Answer → Type 0
IsCombinedAs mix (Good line demand) = IsCombined mix line × (demand ≡ total_demand mix.models)
IsCombinedAs mix (Cycle ring) = IsRing (all_arcs mix.models) ring
IsCombinedAs mix NoMemory = Unit {0}
