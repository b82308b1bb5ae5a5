-- What the check of a list of entries finds.
use Rattle.std.specs.Prelude.{◌≡◌, ℕ, ◌+◌, ◌-◌, ◌<◌, ◌≤◌, List, take, slice_get, Some}
use Rattle.sequence_rules.specs.Entries.{Follows, IsDerived, units_of}
use Rattle.sequence_values.specs.declared.types.Times.{Times}
use Rattle.sequence_values.specs.declared.types.SeqEntry.{SeqEntry}
use Rattle.sequence_check.specs.Faults.{Fails, Ends}
use Rattle.sequence_check.specs.declared.types.SeqEntryFault.{SeqEntryFault}
use Rattle.sequence_check.specs.declared.types.EntriesFound.{EntriesFound}
use Rattle.sequence_check.specs.declared.types.EntriesFound.TheVariants as found

-- the entries below k follow, each from those before it, and have so many units
pub record AreRightBelow (t : Times) (interval reach : ℕ) (charges : List ℕ) (es : List SeqEntry)
    (k units : ℕ) : Type 0 where
  pub follow : (j : ℕ) (e : SeqEntry) → j < k → slice_get es j ≡ Some e → Follows t interval reach charges (take j es) e
  pub total : units ≡ units_of charges (take k es)

-- The entry k is the first that is refused, for this reason, and the steps walked up to it are at most `steps`.
pub record IsRefusedAt (t : Times) (interval reach : ℕ) (charges : List ℕ) (es : List SeqEntry) (steps k : ℕ)
    (why : SeqEntryFault) : Type 0 where
  pub units : ℕ
  pub below : AreRightBelow t interval reach charges es k units
  pub entry : SeqEntry
  pub there : slice_get es k ≡ Some entry
  pub more : ℕ
  pub fails : Fails t interval reach charges (take k es) entry why more
  pub few : units + more ≤ steps

-- Some step of an entry is walked as one more than `steps`, and every check up to it held.
pub record AreStepsEnded (t : Times) (interval reach : ℕ) (charges : List ℕ) (es : List SeqEntry)
    (steps : ℕ) : Type 0 where
  pub at : ℕ
  pub units : ℕ
  pub below : AreRightBelow t interval reach charges es at units
  pub few : units ≤ steps
  pub entry : SeqEntry
  pub there : slice_get es at ≡ Some entry
  pub ends : Ends t interval reach charges (take at es) entry (steps - units)

-- what is found of a list of entries
abbrev pub AreFound : Times → ℕ → ℕ → List ℕ → List SeqEntry → ℕ → EntriesFound → Type 0
AreFound t interval reach charges es steps (found.Right units) =
    IsDerived t interval reach charges es × (units ≡ units_of charges es) × (units ≤ steps)
AreFound t interval reach charges es steps (found.Refused entry why) =
    IsRefusedAt t interval reach charges es steps entry why
AreFound t interval reach charges es steps found.StepsEnded = AreStepsEnded t interval reach charges es steps
