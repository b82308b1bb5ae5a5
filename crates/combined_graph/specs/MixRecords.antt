-- The reading of a mix, record by record.
use Rattle.std.specs.Prelude.{ℕ, zero, suc, ◌+◌, cond, nat_lt, bytes_eq, codes, List, [], ◌∷◌, ◌++◌, length, slice_set}
use Rattle.std.specs.Prelude.{Option, Some, None, is_some, Result, Ok, Err}
use Rattle.line_io.specs.Lines.{number_in}
use Rattle.line_io.specs.declared.text.Num.{Num}
use Rattle.line_io.specs.declared.text.Num.TheVariants.{Value, NotANumber, Above}
use Rattle.combined_graph.specs.Mixes.{MixedLine, new_model, model_at, model_named, given_time, arc_count, is_name}
use Rattle.combined_graph.specs.Records.{Fields}
use Rattle.combined_graph.specs.declared.fault.MixFault.{MixFault}
use Rattle.combined_graph.specs.declared.fault.MixKind.{MixKind}
use Rattle.combined_graph.specs.declared.fault.MixKind.TheVariants.{Form, Range, RepeatedModel, UnknownModel}
use Rattle.combined_graph.specs.declared.fault.MixKind.TheVariants.{TooManyModels, BadTask, RepeatedTime, TooManyArcs}
use Rattle.combined_graph.specs.declared.fault.MixKind.TheVariants.{NoModel}

-- a value, or what is wrong with a record
abbrev pub Said : Type 0 → Type 0
Said A = Result A MixKind

abbrev pub next : {A B : Type 0} → Said A → (A → Said B) → Said B
next (Err kind) more = Err kind
next (Ok x) more = more x

-- a number of 0 up to a maximum
abbrev pub bounded : Num → Said ℕ
bounded NotANumber = Err Form
bounded Above = Err Range
bounded (Value v) = Ok v

-- a number of 1 up to a maximum
abbrev pub positive : Num → Said ℕ
positive NotANumber = Err Form
positive Above = Err Range
positive (Value zero) = Err Range
positive (Value (suc v)) = Ok (suc v)

-- the task, counted from 0, that a number stands for, where there is such a task
abbrev pub tasked : Num → Said (Option ℕ)
tasked NotANumber = Err Form
tasked Above = Ok None
tasked (Value zero) = Ok None
tasked (Value (suc t)) = Ok (Some t)

abbrev pub task_in : ℕ → List ℕ → Said (Option ℕ)
task_in tasks field = tasked (number_in tasks field)

-- what stands behind a name, where it is one
abbrev pub named : {A : Type 0} → List ℕ → Said A → Said A
named name more = cond (is_name name) more (Err Form)

-- what stands beside a field that is to be empty
abbrev pub if_empty : {A : Type 0} → List ℕ → Said A → Said A
if_empty [] more = more
if_empty (b ∷ bytes) more = Err Form

-- one more model
abbrev pub with_model : MixedLine → List ℕ → ℕ → MixedLine
with_model mix name demand =
    record mix { models = mix.models ++ new_model mix.tasks name demand ∷ [] }

-- a time of a model's task
abbrev pub with_time : MixedLine → ℕ → ℕ → ℕ → MixedLine
with_time mix m t time =
    let model = model_at mix.models m in
    record mix { models = slice_set mix.models m (record model { times = slice_set model.times t (Some time) }) }

-- one more arc of a model
abbrev pub with_arc : MixedLine → ℕ → ℕ → ℕ → MixedLine
with_arc mix m i j =
    let model = model_at mix.models m in
    record mix {
      models = slice_set mix.models m (record model
          { arcs = model.arcs ++ record { first = i; «then» = j } ∷ [] });
    }

-- a model, whose name is new and one of at most 16
abbrev pub model_for : MixedLine → Option ℕ → List ℕ → ℕ → Said MixedLine
model_for mix (Some m) name demand = Err RepeatedModel
model_for mix None name demand = cond (nat_lt (length mix.models) 16) (Ok (with_model mix name demand))
    (Err TooManyModels)

abbrev pub model_said : MixedLine → List ℕ → List ℕ → List ℕ → Said MixedLine
model_said mix name demand fourth =
    named name (if_empty fourth (next (positive (number_in 10000 demand))
    (λ d. model_for mix (model_named mix.models name) name d)))

-- a time, of a model with a record above, of one of the tasks, and the first of that model and task
abbrev pub time_for : MixedLine → Option ℕ → Option ℕ → ℕ → Said MixedLine
time_for mix None t time = Err UnknownModel
time_for mix (Some m) None time = Err BadTask
time_for mix (Some m) (Some t) time = cond (is_some (given_time (model_at mix.models m) t)) (Err RepeatedTime)
    (Ok (with_time mix m t time))

abbrev pub time_said : MixedLine → List ℕ → List ℕ → List ℕ → Said MixedLine
time_said mix name task time =
    named name (next (task_in mix.tasks task) (λ t. next (bounded (number_in 1000000000 time))
    (λ v. time_for mix (model_named mix.models name) t v)))

-- an arc, of a model with a record above, of two of the tasks or of one and itself, and one of at most 524,288
abbrev pub arc_for : MixedLine → Option ℕ → Option ℕ → Option ℕ → Said MixedLine
arc_for mix None i j = Err UnknownModel
arc_for mix (Some m) None j = Err BadTask
arc_for mix (Some m) (Some i) None = Err BadTask
arc_for mix (Some m) (Some i) (Some j) = cond (nat_lt (arc_count mix.models) 524288) (Ok (with_arc mix m i j))
    (Err TooManyArcs)

abbrev pub arc_said : MixedLine → List ℕ → List ℕ → List ℕ → Said MixedLine
arc_said mix name first then_ =
    named name (next (task_in mix.tasks first) (λ i. next (task_in mix.tasks then_)
    (λ j. arc_for mix (model_named mix.models name) i j)))

-- what the four fields of a record behind the first one make of the mix so far
abbrev pub fields_said : MixedLine → List ℕ → List ℕ → List ℕ → List ℕ → Said MixedLine
fields_said mix word name third fourth =
    cond (bytes_eq word (codes "model")) (model_said mix name third fourth)
    (cond (bytes_eq word (codes "time")) (time_said mix name third fourth)
    (cond (bytes_eq word (codes "arc")) (arc_said mix name third fourth) (Err Form)))

-- a mix of so many tasks, and no model yet
abbrev pub empty_mix : ℕ → MixedLine
empty_mix tasks = record { tasks = tasks; models = [] }

-- what the four fields of the first record say
abbrev pub tasks_said : List ℕ → List ℕ → List ℕ → List ℕ → Said MixedLine
tasks_said word tasks third fourth =
    cond (bytes_eq word (codes "tasks")) (if_empty third (if_empty fourth
    (next (positive (number_in 1024 tasks)) (λ n. Ok (empty_mix n))))) (Err Form)

-- a record of four fields
abbrev pub with_four : {A : Type 0} → Fields → (List ℕ → List ℕ → List ℕ → List ℕ → Said A) → Said A
with_four (a ∷ b ∷ c ∷ d ∷ []) more = more a b c d
with_four fields more = Err Form

abbrev pub first_said : Fields → Said MixedLine
first_said fields = with_four fields tasks_said

abbrev pub record_said : MixedLine → Fields → Said MixedLine
record_said mix fields = with_four fields (fields_said mix)

-- the fault of a record, by its number
abbrev pub at_record : ℕ → Said MixedLine → (MixedLine → Result MixedLine MixFault) → Result MixedLine MixFault
at_record k (Err kind) more = Err (record { row = k; kind = kind })
at_record k (Ok mix) more = more mix

-- what records from number k on make of a mix; behind the last one there has to be a model
abbrev pub rest_said : List Fields → ℕ → MixedLine → Result MixedLine MixFault
rest_said [] k mix = cond (nat_lt 0 (length mix.models)) (Ok mix) (Err (record { row = k; kind = NoModel }))
rest_said (r ∷ rs) k mix = at_record k (record_said mix r) (rest_said rs (k + 1))

-- what records say: a mix, or the first fault
abbrev pub records_said : List Fields → Result MixedLine MixFault
records_said [] = Err (record { row = 1; kind = Form })
records_said (r ∷ rs) = at_record 1 (first_said r) (rest_said rs 2)
