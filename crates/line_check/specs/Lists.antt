-- What the check of a list of entries finds.
use Rattle.std.specs.Prelude.{◌≡◌, ℕ, ◌+◌, ◌-◌, ◌<◌, ◌≤◌, List, take, slice_get, Some}
use Rattle.line_instance.specs.Line.{Line}
use Rattle.line_rules.specs.Entries.{Follows, IsDerived}
use Rattle.line_rules.specs.Units.{UnitsOf}
use Rattle.line_rules.specs.declared.types.LineKind.{LineKind}
use Rattle.line_rules.specs.declared.types.Entry.{Entry}
use Rattle.line_check.specs.Faults.{Fails, Ends}
use Rattle.line_check.specs.declared.types.EntryFault.{EntryFault}
use Rattle.line_check.specs.declared.types.ListFound.{ListFound}
use Rattle.line_check.specs.declared.types.ListFound.TheVariants as found

-- the entries below k follow, each from those before it, and have so many units
pub record AreRightBelow (kind : LineKind) (line : Line) (es : List Entry) (k units : ℕ) : Type 0 where
  pub follow : (j : ℕ) (e : Entry) → j < k → slice_get es j ≡ Some e → Follows kind line (take j es) e
  pub sum : UnitsOf line (take k es) units

-- The entry k is the first that is refused, for this reason, and the loads walked up to it are at most `steps`.
pub record IsRefusedAt (kind : LineKind) (line : Line) (es : List Entry) (steps k : ℕ) (why : EntryFault) : Type 0 where
  pub units : ℕ
  pub below : AreRightBelow kind line es k units
  pub entry : Entry
  pub there : slice_get es k ≡ Some entry
  pub more : ℕ
  pub fails : Fails kind line (take k es) entry why more
  pub few : units + more ≤ steps

-- Some load of an entry is walked as one more than `steps`, and every check up to it held.
pub record AreStepsEnded (kind : LineKind) (line : Line) (es : List Entry) (steps : ℕ) : Type 0 where
  pub at : ℕ
  pub units : ℕ
  pub below : AreRightBelow kind line es at units
  pub few : units ≤ steps
  pub entry : Entry
  pub there : slice_get es at ≡ Some entry
  pub ends : Ends kind line (take at es) entry (steps - units)

-- what is found of a list of entries
abbrev pub AreFound : LineKind → Line → List Entry → ℕ → ListFound → Type 0
AreFound kind line es steps (found.Right units) = IsDerived kind line es × UnitsOf line es units × (units ≤ steps)
AreFound kind line es steps (found.Refused entry why) = IsRefusedAt kind line es steps entry why
AreFound kind line es steps found.StepsEnded = AreStepsEnded kind line es steps
