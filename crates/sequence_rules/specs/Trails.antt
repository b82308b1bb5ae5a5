-- The open frames of a search that stopped: valid trails, trails that are open over a list of entries, and their units.
use Rattle.std.specs.Prelude.{◌≡◌, ℕ, zero, suc, ◌+◌, ◌<◌, ◌≤◌, Bool, true, false, nat_eq, List, length, slice_get}
use Rattle.std.specs.Prelude.{Option, Some, None, sum_by}
use Rattle.sequence_rules.specs.States.{step_cost, next_starts, less_one, root_starts}
use Rattle.sequence_rules.specs.Entries.{AnswersPlainly, Covers, is_left, models_left}
use Rattle.sequence_values.specs.declared.types.Times.{Times}
use Rattle.sequence_values.specs.declared.types.SeqEntry.{SeqEntry}
use Rattle.sequence_values.specs.declared.types.SeqFrame.{SeqFrame}

-- the first frame has the root: all demands are left, and the first unit is begun at the beginning of each station
pub record IsRoot (t : Times) (f : SeqFrame) : Type 0 where
  pub rem : f.rem ≡ t.demands
  pub starts : f.starts ≡ root_starts t

-- a frame has the state after the step by the last model of the frame above it, and what that step leaves of its need
pub record IsLeftBy (t : Times) (interval reach : ℕ) (above f : SeqFrame) : Type 0 where
  pub model : ℕ
  pub last : above.last ≡ Some model
  pub rem : f.rem ≡ less_one above.rem model
  pub starts : f.starts ≡ next_starts t interval reach model above.starts
  pub need : f.need + step_cost t reach model above.starts ≡ above.need

-- the first frame has the root, and each further one what the frame above it leaves
abbrev pub IsAskedAt : Times → ℕ → ℕ → List SeqFrame → ℕ → SeqFrame → Type 0
IsAskedAt t interval reach fs zero f = IsRoot t f
IsAskedAt t interval reach fs (suc i) f = (above : SeqFrame)
    × ((slice_get fs i ≡ Some above) × IsLeftBy t interval reach above f)

-- whether the frame j is the deepest
abbrev pub is_deepest : List SeqFrame → ℕ → Bool
is_deepest fs j = nat_eq (j + 1) (length fs)

-- a unit of the last model is left; only the deepest frame may have no last model
abbrev pub EndsWell : Bool → List ℕ → Option ℕ → Type 0
EndsWell deepest rem (Some model) = is_left rem model ≡ true
EndsWell deepest rem None = deepest ≡ true

-- how many models there are up to and including the last one
abbrev pub up_to : Option ℕ → ℕ
up_to None = 0
up_to (Some model) = suc model

-- the steps below this number are matched with cites: above the deepest frame without the last one, for which the frame
-- below stands
abbrev pub matched_to : Bool → Option ℕ → ℕ
matched_to deepest None = 0
matched_to true (Some model) = suc model
matched_to false (Some model) = model

-- a right frame of a trail
pub record IsRightAt (t : Times) (interval reach : ℕ) (charges : List ℕ) (es : List SeqEntry) (fs : List SeqFrame)
    (j : ℕ) (f : SeqFrame) : Type 0 where
  pub asked : IsAskedAt t interval reach fs j f
  pub last : EndsWell (is_deepest fs j) f.rem f.last
  pub covers : Covers t interval reach charges es f.rem f.starts f.need (matched_to (is_deepest fs j) f.last) f.cites

-- the first frame, where there is one, has a need above the lower bound and at most the upper one
abbrev pub IsAllowed : ℕ → ℕ → List SeqFrame → Type 0
IsAllowed lower upper fs = (f : SeqFrame) → slice_get fs 0 ≡ Some f → (lower < f.need) × (f.need ≤ upper)

-- A valid trail over a list of entries, between a lower and an upper bound. No frame at all is one too.
pub record IsTrail (t : Times) (interval reach : ℕ) (charges : List ℕ) (es : List SeqEntry) (lower upper : ℕ)
    (fs : List SeqFrame) : Type 0 where
  pub allowed : IsAllowed lower upper fs
  pub right : (j : ℕ) (f : SeqFrame) → slice_get fs j ≡ Some f → IsRightAt t interval reach charges es fs j f

-- no entry by Bound or Branch answers the frame's state and need
abbrev pub IsUnanswered : List SeqEntry → SeqFrame → Type 0
IsUnanswered es f = (k : ℕ) (e : SeqEntry) → slice_get es k ≡ Some e → AnswersPlainly e f.rem f.starts f.need → ⊥

-- The trail is open over the entries: none by Bound or Branch answers a frame, and the deepest frame has a further step.
pub record IsOpenOver (es : List SeqEntry) (fs : List SeqFrame) : Type 0 where
  pub unanswered : (k : ℕ) (f : SeqFrame) → slice_get fs k ≡ Some f → IsUnanswered es f
  pub further : (k : ℕ) (f : SeqFrame) → slice_get fs k ≡ Some f → length fs ≡ suc k
      → (model : ℕ) × ((up_to f.last ≤ model) × (is_left f.rem model ≡ true))

-- the units of a frame: one for each model up to its last of which a unit is left
abbrev pub frame_units : SeqFrame → ℕ
frame_units f = models_left f.rem (up_to f.last)

-- the sum of the units of the frames
abbrev pub units_in : List SeqFrame → ℕ
units_in fs = sum_by frame_units fs
