-- What the layers of a walk hold, and the steps that a walk takes. A step of a state is by a model of which a unit is
-- left, and costs a unit (own).
use Rattle.std.specs.Prelude.{◌≡◌, ℕ, zero, suc, ◌+◌, ◌-◌, ◌⊎◌, nat_lt, List, length, slice_get, Some, vec_len}
use Rattle.std.specs.List.{count_by}
use Rattle.sequence_values.specs.declared.types.Times.{Times}
use Rattle.sequence_rules.specs.Ranges.{IsState}
use Rattle.sequence_walk.specs.Rows.{row_at}
use Rattle.sequence_walk.specs.declared.layers.Layer.{Layer}
use Rattle.sequence_walk.specs.declared.layers.Indexed.{Indexed}
use Rattle.sequence_walk.specs.declared.passes.Pass.{Pass}

-- how many units are wanted, as a pass knows them (own)
abbrev pub units_of : Pass → ℕ
units_of pass = pass.told.left

-- how many states a layer has (own)
abbrev pub states_of : Layer → ℕ
states_of layer = vec_len layer.steps

-- what is left of each model at place k of a layer (own)
abbrev pub rem_at : Layer → ℕ → List ℕ
rem_at layer k = row_at layer.rems.items layer.models k

-- where the next unit is begun at each station, at place k of a layer (own)
abbrev pub starts_at : Layer → ℕ → List ℕ
starts_at layer k = row_at layer.starts.items layer.stations k

-- what a layer holds at place k is a state of these times, with each number in its range (own)
abbrev pub HoldsState : Times → Layer → ℕ → Type 0
HoldsState times layer k = IsState (length times.demands) times.stations (rem_at layer k) (starts_at layer k)

-- how many models have a unit left (own)
abbrev pub models_left : List ℕ → ℕ
models_left rem = count_by (λ units. nat_lt 0 units) rem

-- Place k of a layer has n steps: if it holds a state, one for each model that has a unit left; if it holds none, no
-- step (own).
abbrev pub HasSteps : Times → Layer → ℕ → ℕ → Type 0
HasSteps times layer k n =
    (HoldsState times layer k × (n ≡ models_left (rem_at layer k))) ⊎ ((HoldsState times layer k → ⊥) × (n ≡ 0))

-- the places below k have n steps in all, where `Has` says of a place how many it has (own)
abbrev pub HaveInAll : (ℕ → ℕ → Type 0) → ℕ → ℕ → Type 0
HaveInAll Has zero n = n ≡ 0
HaveInAll Has (suc k) n = (before : ℕ) × (here : ℕ) × HaveInAll Has k before × Has k here × (n ≡ before + here)

-- the states of a layer have n steps in all (own)
abbrev pub LayerHasSteps : Times → Layer → ℕ → Type 0
LayerHasSteps times layer n = HaveInAll (HasSteps times layer) (states_of layer) n

-- a layer stands at place k, and its states have n steps in all (own)
abbrev pub LayerAtHasSteps : Times → List Indexed → ℕ → ℕ → Type 0
LayerAtHasSteps times layers k n =
    (indexed : Indexed) × (slice_get layers k ≡ Some indexed) × LayerHasSteps times indexed.layer n

-- the states of all layers but the last have n steps in all: those of the last one are not taken (own)
abbrev pub WalkHasSteps : Times → List Indexed → ℕ → Type 0
WalkHasSteps times layers n = HaveInAll (LayerAtHasSteps times layers) (length layers - 1) n
