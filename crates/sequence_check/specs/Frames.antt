-- What the check of the frames of a trail finds.
use Rattle.std.specs.Prelude.{◌≡◌, ℕ, suc, ◌+◌, ◌-◌, ◌<◌, ◌≤◌, List, length, take, slice_get, Some}
use Rattle.sequence_rules.specs.Entries.{is_left, needs_cite, models_left}
use Rattle.sequence_rules.specs.Trails.{IsAskedAt, is_deepest, EndsWell, up_to, matched_to, IsRightAt, frame_units}
use Rattle.sequence_rules.specs.Trails.{units_in}
use Rattle.sequence_values.specs.declared.types.Times.{Times}
use Rattle.sequence_values.specs.declared.types.SeqEntry.{SeqEntry}
use Rattle.sequence_values.specs.declared.types.SeqFrame.{SeqFrame}
use Rattle.sequence_rules.specs.Ranges.{IsNumber, IsLast}
use Rattle.sequence_check.specs.Walks.{IsFirstLate, AreBelow, IsPosed, IsUncovered, IsSpare, IsPast, AnswersStep}
use Rattle.sequence_check.specs.declared.types.SeqFrameFault.{SeqFrameFault}
use Rattle.sequence_check.specs.declared.types.SeqFrameFault.TheVariants as fault
use Rattle.sequence_check.specs.declared.types.Checked.{Checked}
use Rattle.sequence_check.specs.declared.types.Checked.TheVariants as found
use Rattle.sequence_check.specs.declared.types.FramesFound.{FramesFound}
use Rattle.sequence_check.specs.declared.types.FramesFound.TheVariants as all_found

-- a frame whose state and last model are of these models and stations, with numbers that are in range
pub record IsPosedFrame (t : Times) (interval reach : ℕ) (f : SeqFrame) : Type 0 where
  pub posed : IsPosed t interval reach f.rem f.starts
  pub need : IsNumber f.need
  pub last : IsLast (length f.rem) f.last

-- a frame may be walked: it has the question that it should have, a right last model, and cites of entries of the list
pub record IsReadyAt (t : Times) (interval reach : ℕ) (charges : List ℕ) (es : List SeqEntry) (fs : List SeqFrame)
    (j : ℕ)
    (f : SeqFrame) : Type 0 where
  pub asked : IsAskedAt t interval reach fs j f
  pub last : EndsWell (is_deepest fs j) f.rem f.last
  pub below : AreBelow f.cites (length es)

-- The first thing that is wrong with the frame, and the steps walked up to it. That the first frame is allowed is asked
-- elsewhere.
abbrev pub FailsAt : Times → ℕ → ℕ → List ℕ → List SeqEntry → List SeqFrame → ℕ → SeqFrame → SeqFrameFault → ℕ → Type 0
FailsAt t interval reach charges es fs j f fault.Allowed units = ⊥
FailsAt t interval reach charges es fs j f fault.Set units = (IsAskedAt t interval reach fs j f → ⊥) × (units ≡ 0)
FailsAt t interval reach charges es fs j f fault.Last units =
    IsAskedAt t interval reach fs j f × (EndsWell (is_deepest fs j) f.rem f.last → ⊥) × (units ≡ 0)
FailsAt t interval reach charges es fs j f (fault.Cite x) units =
    IsAskedAt t interval reach fs j f × EndsWell (is_deepest fs j) f.rem f.last × IsFirstLate f.cites (length es) x
    × (units ≡ 0)
FailsAt t interval reach charges es fs j f (fault.Uncovered model) units =
    IsReadyAt t interval reach charges es fs j f × (model < matched_to (is_deepest fs j) f.last)
    × IsUncovered (needs_cite t interval reach f.rem f.starts f.need)
    (AnswersStep t interval reach charges es f.rem f.starts f.need) f.cites model
    × (units ≡ models_left f.rem (suc model))
FailsAt t interval reach charges es fs j f fault.Spare units =
    IsReadyAt t interval reach charges es fs j f
    × IsSpare (needs_cite t interval reach f.rem f.starts f.need)
    (AnswersStep t interval reach charges es f.rem f.starts f.need) f.cites (matched_to (is_deepest fs j) f.last)
    × (units ≡ frame_units f)

-- some step of the frame is walked as one more than `steps`, and every check up to it held
abbrev pub EndsAt : Times → ℕ → ℕ → List ℕ → List SeqEntry → List SeqFrame → ℕ → SeqFrame → ℕ → Type 0
EndsAt t interval reach charges es fs j f steps =
    IsReadyAt t interval reach charges es fs j f × IsPast (needs_cite t interval reach f.rem f.starts f.need)
    (AnswersStep t interval reach charges es f.rem f.starts f.need) f.cites (is_left f.rem) (up_to f.last) steps

-- what is found of a frame
abbrev pub IsFoundAt : Times → ℕ → ℕ → List ℕ → List SeqEntry → List SeqFrame → ℕ → SeqFrame → ℕ
    → Checked SeqFrameFault → Type 0
IsFoundAt t interval reach charges es fs j f steps (found.Right units) = IsRightAt t interval reach charges es fs j f
    × (units ≡ frame_units f) × (units ≤ steps)
IsFoundAt t interval reach charges es fs j f steps (found.Fails why units) =
    FailsAt t interval reach charges es fs j f why units × (units ≤ steps)
IsFoundAt t interval reach charges es fs j f steps found.StepsEnded = EndsAt t interval reach charges es fs j f steps

-- the frames below j are right, and have so many units
pub record AreRightTo (t : Times) (interval reach : ℕ) (charges : List ℕ) (es : List SeqEntry) (fs : List SeqFrame)
    (j units : ℕ) : Type 0 where
  pub right : (i : ℕ) (f : SeqFrame) → i < j → slice_get fs i ≡ Some f → IsRightAt t interval reach charges es fs i f
  pub total : units ≡ units_in (take j fs)

-- The frame j is the first that is refused, for this reason, and the steps walked up to it are at most `steps`.
pub record IsFrameRefused (t : Times) (interval reach : ℕ) (charges : List ℕ) (es : List SeqEntry)
    (fs : List SeqFrame) (steps j : ℕ) (why : SeqFrameFault) : Type 0 where
  pub units : ℕ
  pub below : AreRightTo t interval reach charges es fs j units
  pub frame : SeqFrame
  pub there : slice_get fs j ≡ Some frame
  pub more : ℕ
  pub fails : FailsAt t interval reach charges es fs j frame why more
  pub few : units + more ≤ steps

-- Some step of a frame is walked as one more than `steps`, and every check up to it held.
pub record AreFramesEnded (t : Times) (interval reach : ℕ) (charges : List ℕ) (es : List SeqEntry) (fs : List SeqFrame)
    (steps : ℕ) : Type 0 where
  pub at : ℕ
  pub units : ℕ
  pub below : AreRightTo t interval reach charges es fs at units
  pub few : units ≤ steps
  pub frame : SeqFrame
  pub there : slice_get fs at ≡ Some frame
  pub ends : EndsAt t interval reach charges es fs at frame (steps - units)

-- each frame is right
abbrev pub AreRight : Times → ℕ → ℕ → List ℕ → List SeqEntry → List SeqFrame → Type 0
AreRight t interval reach charges es fs = (j : ℕ) (f : SeqFrame) → slice_get fs j ≡ Some f
    → IsRightAt t interval reach charges es fs j f

-- what is found of the frames
abbrev pub AreFramesFound : Times → ℕ → ℕ → List ℕ → List SeqEntry → List SeqFrame → ℕ → FramesFound → Type 0
AreFramesFound t interval reach charges es fs steps (all_found.Right units) = AreRight t interval reach charges es fs
    × (units ≡ units_in fs) × (units ≤ steps)
AreFramesFound t interval reach charges es fs steps (all_found.Refused frame why) =
    IsFrameRefused t interval reach charges es fs steps frame why
AreFramesFound t interval reach charges es fs steps all_found.StepsEnded =
    AreFramesEnded t interval reach charges es fs steps
