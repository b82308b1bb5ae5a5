-- What a seek comes to: nothing of it has to be believed, and all of it is tested (own).
use Rattle.std.specs.Prelude.{◌≡◌, ℕ, ◌≤◌, List, length, slice_get, Some}
use Rattle.sequence_values.specs.declared.types.Times.{Times}
use Rattle.sequence_values.specs.declared.types.SeqEntry.{SeqEntry}
use Rattle.sequence_rules.specs.States.{IsSequenceOf}
use Rattle.sequence_rules.specs.Charges.{AreCharges}
use Rattle.sequence_rules.specs.Ranges.{IsEntry}
use Rattle.sequence_seek.specs.declared.types.SeqSought.{SeqSought}
use Rattle.sequence_seek.specs.declared.types.SeqSought.TheVariants as sought

-- entries in the ranges of a certificate's text, with these charges
abbrev pub AreEntries : Times → List ℕ → List SeqEntry → Type 0
AreEntries t charges es = (k : ℕ) (e : SeqEntry) → slice_get es k ≡ Some e
    → IsEntry (length t.demands) t.stations (Some charges) e

-- What is found: no more units are used than were given, the sequence has each model as often as it is wanted, the
-- charges are in their range, and there are at most 999,999 lemmas, in theirs (own).
pub record IsFound (t : Times) (limit : ℕ) (sequence charges : List ℕ) (lemmas : List SeqEntry) (used : ℕ) : Type 0 where
  pub within : used ≤ limit
  pub ordered : IsSequenceOf t.demands sequence
  pub charged : AreCharges t charges
  pub few : length lemmas ≤ 999999
  pub ranged : AreEntries t charges lemmas

-- what a seek of so many units comes to
abbrev pub Seeks : Times → ℕ → SeqSought → Type 0
Seeks t limit (sought.Done sequence charges lemmas used) = IsFound t limit sequence charges lemmas used
Seeks t limit sought.NoMemory = Unit {0}
