-- What the check of the frames of a trail finds.
use Rattle.std.specs.Prelude.{◌≡◌, ℕ, ◌+◌, ◌-◌, ◌<◌, ◌≤◌, ◌⊎◌, Bool, true, false, nat_eq, List, length, take, slice_get}
use Rattle.std.specs.Prelude.{Option, Some, None}
use Rattle.line_instance.specs.Line.{Line}
use Rattle.line_rules.specs.Balance.{all_tasks}
use Rattle.line_rules.specs.Loads.{IsLoad, IsFull, Belongs, rest}
use Rattle.line_rules.specs.Order.{UpTo, Counts}
use Rattle.line_rules.specs.Entries.{IsOpen, Covers}
use Rattle.line_rules.specs.Trails.{LastIsLoad, IsTrail}
use Rattle.line_rules.specs.Units.{FrameUnits, UnitsIn}
use Rattle.line_rules.specs.declared.types.LineKind.{LineKind}
use Rattle.line_rules.specs.declared.types.Mode.{Mode}
use Rattle.line_rules.specs.declared.types.Load.{Load}
use Rattle.line_rules.specs.declared.types.Entry.{Entry}
use Rattle.line_rules.specs.declared.types.OpenFrame.{OpenFrame}
use Rattle.line_check.specs.Walks.{IsFirstLate, AreBelow, IsUncovered, IsSpare, IsPast, CountsTo}
use Rattle.line_check.specs.Reaches.{IsMatched}
use Rattle.line_check.specs.declared.types.FrameFault.{FrameFault}
use Rattle.line_check.specs.declared.types.FrameFault.TheVariants as fault
use Rattle.line_check.specs.declared.types.Checked.{Checked}
use Rattle.line_check.specs.declared.types.Checked.TheVariants as found
use Rattle.line_check.specs.declared.types.FramesFound.{FramesFound}
use Rattle.line_check.specs.declared.types.FramesFound.TheVariants as all_found

-- the frame has the question that the one above it, its number less by one, leaves: the rest of its last load with one
-- station less, of one at least
pub record IsLeftBy (above f : OpenFrame) : Type 0 where
  pub load : Load
  pub last : above.last ≡ Some load
  pub stations : 1 ≤ above.most
  pub set : f.set ≡ rest above.set load
  pub most : f.most ≡ above.most - 1

-- the first frame has all tasks, and each further one what the frame above it leaves
abbrev pub IsAskedAt : Line → List OpenFrame → ℕ → OpenFrame → Type 0
IsAskedAt line fs j f = ((j ≡ 0) × (f.set ≡ all_tasks line))
    ⊎ ((i : ℕ) × (above : OpenFrame) × ((j ≡ i + 1) × (slice_get fs i ≡ Some above) × IsLeftBy above f))

-- the last load is one of the set; only the deepest frame may have none, and only its last load needn't be full
abbrev pub EndsWell : Bool → Line → ℕ → Mode → List Bool → Option Load → Type 0
EndsWell true line X mode R last = LastIsLoad line X mode R last
EndsWell false line X mode R None = ⊥
EndsWell false line X mode R (Some l) = IsLoad line X mode R l × IsFull line X mode R l

-- the loads of the set up to the last one, and those that are matched of them that need a cite
abbrev pub WalksTo : Line → ℕ → OpenFrame → Load → Type 0
WalksTo line X f k = IsLoad line X f.mode f.set k × UpTo line f.last k

abbrev pub NeedsTo : LineKind → Line → ℕ → Bool → OpenFrame → Load → Type 0
NeedsTo kind line X deepest f k = IsOpen kind line X f.mode f.set f.most k × IsMatched deepest line f.last k

-- whether the frame j is the deepest
abbrev pub is_deepest : List OpenFrame → ℕ → Bool
is_deepest fs j = nat_eq (j + 1) (length fs)

-- a frame may be walked: it has the question that it should have, a mode of the line, a right last load, and cites of
-- entries of the list
pub record IsReadyAt (kind : LineKind) (line : Line) (X : ℕ) (es : List Entry) (fs : List OpenFrame) (j : ℕ)
    (f : OpenFrame) : Type 0 where
  pub asked : IsAskedAt line fs j f
  pub belongs : Belongs kind f.mode
  pub last : EndsWell (is_deepest fs j) line X f.mode f.set f.last
  pub below : AreBelow f.cites (length es)

-- a right frame: its cites cover the loads that are matched
pub record IsRightAt (kind : LineKind) (line : Line) (X : ℕ) (es : List Entry) (fs : List OpenFrame) (j : ℕ)
    (f : OpenFrame) : Type 0 where
  pub asked : IsAskedAt line fs j f
  pub belongs : Belongs kind f.mode
  pub last : EndsWell (is_deepest fs j) line X f.mode f.set f.last
  pub covers : Covers line (NeedsTo kind line X (is_deepest fs j) f) es f.set f.most X f.cites

-- The first thing that is wrong with the frame, and the loads walked up to it. That the first frame is allowed is asked
-- elsewhere.
abbrev pub FailsAt : LineKind → Line → ℕ → List Entry → List OpenFrame → ℕ → OpenFrame → FrameFault → ℕ → Type 0
FailsAt kind line X es fs j f fault.Allowed units = ⊥
FailsAt kind line X es fs j f fault.Set units = (IsAskedAt line fs j f → ⊥) × (units ≡ 0)
FailsAt kind line X es fs j f fault.Mode units = IsAskedAt line fs j f × (Belongs kind f.mode → ⊥) × (units ≡ 0)
FailsAt kind line X es fs j f fault.Last units =
    IsAskedAt line fs j f × Belongs kind f.mode × (EndsWell (is_deepest fs j) line X f.mode f.set f.last → ⊥)
    × (units ≡ 0)
FailsAt kind line X es fs j f (fault.Cite x) units =
    IsAskedAt line fs j f × Belongs kind f.mode × EndsWell (is_deepest fs j) line X f.mode f.set f.last
    × IsFirstLate f.cites (length es) x × (units ≡ 0)
FailsAt kind line X es fs j f (fault.Uncovered load) units =
    IsReadyAt kind line X es fs j f
    × IsUncovered line (WalksTo line X f) (NeedsTo kind line X (is_deepest fs j) f) es f.set f.most X f.cites load
    × CountsTo line (WalksTo line X f) (NeedsTo kind line X (is_deepest fs j) f) es f.set f.most X f.cites load units
FailsAt kind line X es fs j f fault.Spare units =
    IsReadyAt kind line X es fs j f
    × IsSpare line (WalksTo line X f) (NeedsTo kind line X (is_deepest fs j) f) es f.set f.most X f.cites
    × Counts line (WalksTo line X f) units

-- some load of the frame is walked as one more than `steps`, and every check up to it held
abbrev pub EndsAt : LineKind → Line → ℕ → List Entry → List OpenFrame → ℕ → OpenFrame → ℕ → Type 0
EndsAt kind line X es fs j f steps =
    IsReadyAt kind line X es fs j f × IsPast line (WalksTo line X f) (NeedsTo kind line X (is_deepest fs j) f) es f.set
    f.most X f.cites steps

-- what is found of a frame
abbrev pub IsFoundAt : LineKind → Line → ℕ → List Entry → List OpenFrame → ℕ → OpenFrame → ℕ → Checked FrameFault
    → Type 0
IsFoundAt kind line X es fs j f steps (found.Right units) = IsRightAt kind line X es fs j f × FrameUnits line X f units
    × (units ≤ steps)
IsFoundAt kind line X es fs j f steps (found.Fails why units) = FailsAt kind line X es fs j f why units
    × (units ≤ steps)
IsFoundAt kind line X es fs j f steps found.StepsEnded = EndsAt kind line X es fs j f steps

-- the frames below j are right, and have so many units
pub record AreRightTo (kind : LineKind) (line : Line) (X : ℕ) (es : List Entry) (fs : List OpenFrame)
    (j units : ℕ) : Type 0 where
  pub right : (i : ℕ) (f : OpenFrame) → i < j → slice_get fs i ≡ Some f → IsRightAt kind line X es fs i f
  pub sum : UnitsIn line X (take j fs) units

-- The frame j is the first that is refused, for this reason, and the loads walked up to it are at most `steps`.
pub record IsFrameRefused (kind : LineKind) (line : Line) (X : ℕ) (es : List Entry) (fs : List OpenFrame) (steps j : ℕ)
    (why : FrameFault) : Type 0 where
  pub units : ℕ
  pub below : AreRightTo kind line X es fs j units
  pub frame : OpenFrame
  pub there : slice_get fs j ≡ Some frame
  pub more : ℕ
  pub fails : FailsAt kind line X es fs j frame why more
  pub few : units + more ≤ steps

-- Some load of a frame is walked as one more than `steps`, and every check up to it held.
pub record AreFramesEnded (kind : LineKind) (line : Line) (X : ℕ) (es : List Entry) (fs : List OpenFrame)
    (steps : ℕ) : Type 0 where
  pub at : ℕ
  pub units : ℕ
  pub below : AreRightTo kind line X es fs at units
  pub few : units ≤ steps
  pub frame : OpenFrame
  pub there : slice_get fs at ≡ Some frame
  pub ends : EndsAt kind line X es fs at frame (steps - units)

-- the frames are a valid trail from some number of stations
abbrev pub IsTrailOf : LineKind → Line → ℕ → List Entry → List OpenFrame → Type 0
IsTrailOf kind line X es fs = (most : ℕ) × IsTrail kind line X es (all_tasks line) most fs

-- what is found of the frames
abbrev pub AreFramesFound : LineKind → Line → ℕ → List Entry → List OpenFrame → ℕ → FramesFound → Type 0
AreFramesFound kind line X es fs steps (all_found.Right units) = IsTrailOf kind line X es fs × UnitsIn line X fs units
    × (units ≤ steps)
AreFramesFound kind line X es fs steps (all_found.Refused frame why) = IsFrameRefused kind line X es fs steps frame why
AreFramesFound kind line X es fs steps all_found.StepsEnded = AreFramesEnded kind line X es fs steps
