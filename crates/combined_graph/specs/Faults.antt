-- The fault of a mix: the first record that no reading passes, or the end of the records.
use Rattle.std.specs.Prelude.{◌≡◌, ◌⊎◌, ◌+◌, List, [], ◌∷◌, ◌++◌, length, Ok}
use Rattle.combined_graph.specs.Mixes.{MixedLine}
use Rattle.combined_graph.specs.Records.{Fields}
use Rattle.combined_graph.specs.MixRecords.{records_said}
use Rattle.combined_graph.specs.declared.fault.MixFault.{MixFault}

-- the records say a mix
abbrev pub AreRead : List Fields → Type 0
AreRead records = (mix : MixedLine) × (records_said records ≡ Ok mix)

-- some records that say a mix begin with these
abbrev pub AreBeginning : List Fields → Type 0
AreBeginning records = (more : List Fields) × AreRead (records ++ more)

-- the fault is of a record: those before it begin records that say a mix, and with it they begin none
pub record IsRecordFault (records : List Fields) (f : MixFault) : Type 0 where
  pub before : List Fields
  pub at : Fields
  pub after : List Fields
  pub all : records ≡ before ++ at ∷ after
  pub row : f.row ≡ length before + 1
  pub passes : AreBeginning before
  pub stops : AreBeginning (before ++ at ∷ []) → ⊥

-- the fault is of the end: the records begin some that say a mix, and say none themselves
pub record IsEndFault (records : List Fields) (f : MixFault) : Type 0 where
  pub row : f.row ≡ length records + 1
  pub passes : AreBeginning records
  pub ends : AreRead records → ⊥

-- the first record that no reading passes, or the end
abbrev pub IsFirstFault : List Fields → MixFault → Type 0
IsFirstFault records f = IsRecordFault records f ⊎ IsEndFault records f
