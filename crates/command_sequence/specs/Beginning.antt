-- With what a search for a sequence begins: with the sequence in the order of the models, or with what a seek found.
use Rattle.std.specs.Prelude.{◌≡◌, ℕ, zero, suc, ◌+◌, ◌-◌, ◌≤◌, List, [], length, slice_get, Option, Some, None, IfSome}
use Rattle.sequence_rules.specs.States.{IsSequenceOf, cost, root_starts}
use Rattle.sequence_rules.specs.Entries.{IsByCharge, IsDerived, units_of}
use Rattle.sequence_rules.specs.Ranges.{AreChargesIf, IsEntry}
use Rattle.sequence_values.specs.declared.types.Times.{Times}
use Rattle.sequence_values.specs.declared.types.SeqEntry.{SeqEntry}
use Rattle.sequence_search.specs.About.{About, charges_of}
use Rattle.sequence_search.specs.Outcomes.{model_order, first_cost}
use Rattle.sequence_seek.specs.Sought.{IsFound}
use Rattle.warm_sequence.specs.Warm.{AreKept}
use Rattle.command_outcome.specs.Bounds.{seek_line}

-- an entry of the list is by Charge
abbrev pub HasRow : List SeqEntry → Type 0
HasRow es = (k : ℕ) × (e : SeqEntry) × ((slice_get es k ≡ Some e) × IsByCharge e.why)

-- there are charges exactly where an entry is by Charge
abbrev pub AreChargesFor : List SeqEntry → Option (List ℕ) → Type 0
AreChargesFor es None = HasRow es → ⊥
AreChargesFor es (Some charges) = HasRow es

-- A seek of so many units found a sequence, charges and lemmas. The first sequence costs no more than that one. Kept are
-- those lemmas of the list that follow, in its order, as long as they and their units are within the room; the charges
-- are the seek's. The line says how many units were used, and how many lemmas were kept.
pub record IsSought (t : Times) (interval reach room limit : ℕ) (about : About) (said : List ℕ) : Type 0 where
  pub sequence : List ℕ
  pub charges : List ℕ
  pub lemmas : List SeqEntry
  pub used : ℕ
  pub found : IsFound t limit sequence charges lemmas used
  pub no_worse : first_cost t interval reach about ≤ cost t interval reach (root_starts t) sequence
  pub kept : AreKept t interval reach charges room lemmas about.kept
  pub same : IfSome about.charges (λ a. a ≡ charges)
  pub said_so : said ≡ seek_line used limit (length about.kept)

-- Without a seek a search begins with the sequence in the order of the models alone, and no line says anything; else it
-- begins with what the seek found.
abbrev pub Begins : Times → ℕ → ℕ → ℕ → ℕ → About → List ℕ → Type 0
Begins t interval reach room zero about said = (about.first ≡ model_order t.demands) × (about.kept ≡ []) × (said ≡ [])
Begins t interval reach room (suc k) about said = IsSought t interval reach room (suc k) about said

-- What a search begins with, and the line about it. The first sequence is one of the demands that costs no more than
-- the one in the order of the models. Each kept entry follows from those before it, and with the units of the search
-- they stay within the limits of a certificate and of the default steps of its check.
pub record IsBegun (t : Times) (interval reach units seek : ℕ) (about : About) (said : List ℕ) : Type 0 where
  pub given : about.units ≡ units
  pub is : IsSequenceOf t.demands about.first
  pub no_worse : first_cost t interval reach about ≤ cost t interval reach (root_starts t) (model_order t.demands)
  pub charged : AreChargesFor about.kept about.charges
  pub limit : AreChargesIf (length t.demands) about.charges
  pub derived : IsDerived t interval reach (charges_of about) about.kept
  pub range : (k : ℕ) (e : SeqEntry) → slice_get about.kept k ≡ Some e
      → IsEntry (length t.demands) t.stations about.charges e
  pub many : length about.kept + units ≤ 1999999
  pub paid : units_of (charges_of about) about.kept + units ≤ 1999999
  pub begins : Begins t interval reach (1999999 - units) seek about said
