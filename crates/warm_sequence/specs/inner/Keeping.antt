-- The kept entries as the code has them, and what holds of them along the way.
use Rattle.std.specs.Prelude.{◌≡◌, ℕ, ◌<◌, ◌≤◌, List, length, slice_get, Option, Some, None}
use Rattle.sequence_values.specs.declared.types.Times.{Times}
use Rattle.sequence_values.specs.declared.types.SeqEntry.{SeqEntry}
use Rattle.sequence_rules.specs.Entries.{IsDerived, entry_units, units_of}
use Rattle.sequence_rules.specs.Ranges.{IsEntry}
use Rattle.warm_sequence.specs.declared.warming.Warming.{Warming}
use Rattle.warm_sequence.specs.declared.warming.Judged.{Judged}
use Rattle.warm_sequence.specs.Warm.{Taking, IsKept, TakesAll, untaken}

abbrev pub taking : Warming → Taking
taking w = record { kept = w.kept; numbers = w.numbers.items }

-- an entry of this mix, with these charges
abbrev pub IsOfMix : Times → List ℕ → SeqEntry → Type 0
IsOfMix t charges e = IsEntry (length t.demands) t.stations (Some charges) e

abbrev pub AreOfMix : Times → List ℕ → List SeqEntry → Type 0
AreOfMix t charges es = (k : ℕ) (e : SeqEntry) → slice_get es k ≡ Some e → IsOfMix t charges e

-- What holds of the kept entries: they are derived and in range, they and their units have room, and each number is of
-- one of them.
pub record IsSound (t : Times) (interval reach : ℕ) (charges : List ℕ) (room : ℕ) (k : Taking)
    (units : ℕ) : Type 0 where
  pub derived : IsDerived t interval reach charges k.kept
  pub range : AreOfMix t charges k.kept
  pub few : length k.kept ≤ room
  pub total : units ≡ units_of charges k.kept
  pub paid : units ≤ room
  pub numbered : (j n : ℕ) → slice_get k.numbers j ≡ Some (Some n) → n < length k.kept

-- what is found of an old entry: that it is kept so, with these units and within the ranges; or that it isn't kept
abbrev pub IsJudged : Times → ℕ → ℕ → List ℕ → ℕ → Taking → SeqEntry → Option Judged → Type 0
IsJudged t interval reach charges room k old None = (new : SeqEntry)
    → IsKept t interval reach charges room k old new → ⊥
IsJudged t interval reach charges room k old (Some j) =
    IsKept t interval reach charges room k old j.entry × IsOfMix t charges j.entry
    × (j.units ≡ entry_units charges j.entry)

-- the old entries were taken, and what was kept is sound
pub record IsWarmTo (t : Times) (interval reach : ℕ) (charges : List ℕ) (room : ℕ) (old : List SeqEntry) (k : Taking)
    (units : ℕ) : Type 0 where
  pub taken : TakesAll t interval reach charges room untaken old k
  pub sound : IsSound t interval reach charges room k units
