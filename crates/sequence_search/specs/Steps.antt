-- The steps of a frame in order, and the entry that answers a state.
use Rattle.std.specs.Prelude.{◌≡◌, ℕ, ◌-◌, ◌<◌, ◌≤◌, true, false, List, [], length, slice_get, Some, None, sum}
use Rattle.sequence_rules.specs.States.{step_cost, next_starts, less_one}
use Rattle.sequence_rules.specs.Entries.{AnswersPlainly, is_left, needs_cite}
use Rattle.sequence_values.specs.declared.types.Times.{Times}
use Rattle.sequence_values.specs.declared.types.SeqEntry.{SeqEntry}
use Rattle.sequence_values.specs.declared.types.SeqFrame.{SeqFrame}
use Rattle.sequence_search.specs.declared.outcome.Stepped.{Stepped}
use Rattle.sequence_search.specs.declared.outcome.Stepped.TheVariants as stepped

-- the entry of a number answers a state and a need, and is by Bound or Branch
pub record IsPlainlyCited (es : List SeqEntry) (id : ℕ) (rem starts : List ℕ) (need : ℕ) : Type 0 where
  pub entry : SeqEntry
  pub there : slice_get es id ≡ Some entry
  pub answers : AnswersPlainly entry rem starts need

-- an entry by Bound or Branch answers a state and a need
abbrev pub HasPlainAnswer : List SeqEntry → List ℕ → List ℕ → ℕ → Type 0
HasPlainAnswer es rem starts need = (id : ℕ) × IsPlainlyCited es id rem starts need

-- the number of the last entry by Bound or Branch that answers a state and a need
pub record IsLastAnswer (es : List SeqEntry) (rem starts : List ℕ) (need id : ℕ) : Type 0 where
  pub cited : IsPlainlyCited es id rem starts need
  pub last : (k : ℕ) (e : SeqEntry) → id < k → slice_get es k ≡ Some e → AnswersPlainly e rem starts need → ⊥

-- from a number on, no model has a unit left
abbrev pub IsNoModel : List ℕ → ℕ → Type 0
IsNoModel rem from = (m : ℕ) → from ≤ m → is_left rem m ≡ false

-- the first model from a number on of which a unit is left
pub record IsNextModel (rem : List ℕ) (from model : ℕ) : Type 0 where
  pub after : from ≤ model
  pub below : model < length rem
  pub left : is_left rem model ≡ true
  pub first : (m : ℕ) → from ≤ m → m < model → is_left rem m ≡ false

-- a frame of the state after the step of another one by a model, with what the step leaves of its need
pub record IsNextState (t : Times) (interval reach : ℕ) (f : SeqFrame) (model : ℕ) (g : SeqFrame) : Type 0 where
  pub rem : g.rem ≡ less_one f.rem model
  pub starts : g.starts ≡ next_starts t interval reach model f.starts
  pub need : g.need ≡ f.need - step_cost t reach model f.starts

-- what the step of a frame by a model comes to: it needs no cite; or it needs one, and the last entry that answers its
-- next state gives it; or none does, and nothing is left, or the next state is asked about
abbrev pub StepsTo : Times → ℕ → ℕ → List SeqEntry → SeqFrame → ℕ → Stepped → Type 0
StepsTo t interval reach es f model stepped.Passed = needs_cite t interval reach f.rem f.starts f.need model ≡ false
StepsTo t interval reach es f model (stepped.Answered id) =
    (needs_cite t interval reach f.rem f.starts f.need model ≡ true)
    × IsLastAnswer es (less_one f.rem model) (next_starts t interval reach model f.starts)
    (f.need - step_cost t reach model f.starts) id
StepsTo t interval reach es f model stepped.Ends =
    (needs_cite t interval reach f.rem f.starts f.need model ≡ true) × (sum (less_one f.rem model) ≡ 0)
StepsTo t interval reach es f model (stepped.Opens g) =
    (needs_cite t interval reach f.rem f.starts f.need model ≡ true) × IsNextState t interval reach f model g
    × (0 < sum g.rem) × (HasPlainAnswer es g.rem g.starts g.need → ⊥) × (g.last ≡ None) × (g.cites ≡ [])
