-- What the check of a list or of a certificate finds.
use Rattle.std.specs.Prelude.{◌≡◌, ℕ, ◌-◌, ◌<◌, ◌≤◌, ◌⊎◌, List, Option, Some, None}
use Rattle.line_instance.specs.Line.{Line}
use Rattle.line_rules.specs.Entries.{IsDerived}
use Rattle.line_rules.specs.Units.{UnitsOf, UnitsWhole}
use Rattle.line_rules.specs.declared.types.LineKind.{LineKind}
use Rattle.line_rules.specs.declared.types.Entry.{Entry}
use Rattle.line_rules.specs.declared.types.Trail.{Trail}
use Rattle.line_check.specs.Lists.{IsRefusedAt, AreStepsEnded}
use Rattle.line_check.specs.Frames.{IsTrailOf, IsFrameRefused, AreFramesEnded}
use Rattle.line_check.specs.declared.types.FrameFault.{FrameFault}
use Rattle.line_check.specs.declared.types.Place.{Place}
use Rattle.line_check.specs.declared.types.Place.TheVariants as place
use Rattle.line_check.specs.declared.types.ListChecked.{ListChecked}
use Rattle.line_check.specs.declared.types.ListChecked.TheVariants as checked

-- the entries are derived, and have at most so many units
abbrev pub AreDone : LineKind → Line → List Entry → ℕ → ℕ → Type 0
AreDone kind line es steps units = IsDerived kind line es × UnitsOf line es units × (units ≤ steps)

-- the trail, where there is one, is valid from some number of stations
abbrev pub IsTrailOrNothing : LineKind → Line → List Entry → Option Trail → Type 0
IsTrailOrNothing kind line es None = Unit {0}
IsTrailOrNothing kind line es (Some t) = IsTrailOf kind line t.cycle es t.frames

-- the frame j of the trail is the first that is refused
abbrev pub IsTrailRefused : LineKind → Line → List Entry → Option Trail → ℕ → ℕ → FrameFault → Type 0
IsTrailRefused kind line es None steps j why = ⊥
IsTrailRefused kind line es (Some t) steps j why = IsFrameRefused kind line t.cycle es t.frames steps j why

-- some load of the trail is walked as one more than `steps`
abbrev pub IsTrailEnded : LineKind → Line → List Entry → Option Trail → ℕ → Type 0
IsTrailEnded kind line es None steps = ⊥
IsTrailEnded kind line es (Some t) steps = AreFramesEnded kind line t.cycle es t.frames steps

-- The list isn't right, at this place: an entry, or, where all of them follow, a frame.
abbrev pub IsListRefused : LineKind → Line → List Entry → Option Trail → ℕ → Place → Type 0
IsListRefused kind line es trail steps (place.Tasks said real) = ⊥
IsListRefused kind line es trail steps (place.Infeasible task time) = ⊥
IsListRefused kind line es trail steps (place.Earlier task least) = ⊥
IsListRefused kind line es trail steps (place.Stations s) = ⊥
IsListRefused kind line es trail steps (place.Station i) = ⊥
IsListRefused kind line es trail steps (place.Side i) = ⊥
IsListRefused kind line es trail steps (place.Overfull s time) = ⊥
IsListRefused kind line es trail steps (place.Broken i j) = ⊥
IsListRefused kind line es trail steps (place.Together i j) = ⊥
IsListRefused kind line es trail steps (place.Entry entry why) = IsRefusedAt kind line es steps entry why
IsListRefused kind line es trail steps place.Goal = ⊥
IsListRefused kind line es trail steps (place.Frame frame why) = (units : ℕ) × AreDone kind line es steps units
    × IsTrailRefused kind line es trail (steps - units) frame why

-- some load of an entry, or, where all of them follow, of a frame is walked as one more than `steps`, and every check
-- up to it held
abbrev pub IsListEnded : LineKind → Line → List Entry → Option Trail → ℕ → Type 0
IsListEnded kind line es trail steps =
    AreStepsEnded kind line es steps ⊎ ((units : ℕ) × AreDone kind line es steps units
    × IsTrailEnded kind line es trail (steps - units))

-- what is found of a list and a trail
abbrev pub IsListChecked : LineKind → Line → List Entry → Option Trail → ℕ → ListChecked → Type 0
IsListChecked kind line es trail steps (checked.Right units) = IsDerived kind line es
    × IsTrailOrNothing kind line es trail × UnitsWhole line es trail units × (units ≤ steps)
IsListChecked kind line es trail steps (checked.Refused place) = IsListRefused kind line es trail steps place
IsListChecked kind line es trail steps (checked.StepsEnded s) = (s ≡ steps) × IsListEnded kind line es trail steps

-- What isn't right: a list that is refused isn't derived with a valid trail, and where the steps ended it has more
-- units.
abbrev pub IsListRejected : LineKind → Line → List Entry → Option Trail → ℕ → ListChecked → Type 0
IsListRejected kind line es trail steps (checked.Right units) = Unit {0}
IsListRejected kind line es trail steps (checked.Refused place) = IsDerived kind line es
    → IsTrailOrNothing kind line es trail → ⊥
IsListRejected kind line es trail steps (checked.StepsEnded s) = (units : ℕ) → UnitsWhole line es trail units
    → steps < units
