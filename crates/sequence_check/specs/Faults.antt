-- What the check of an entry finds: that it follows, the first thing that is wrong with it, or that the steps ended. An
-- entry with cites is walked in one form: by Branch over the steps of its state, by Charge over a unit of each model.
use Rattle.std.specs.Prelude.{◌≡◌, ℕ, suc, ◌<◌, ◌≤◌, Bool, true, List, length, Option, Some, None, sum}
use Rattle.sequence_rules.specs.States.{state_bound}
use Rattle.sequence_rules.specs.Entries.{FollowsBy, Follows, is_left, needs_cite, is_light, passing, units_by}
use Rattle.sequence_rules.specs.Entries.{entry_units}
use Rattle.sequence_values.specs.declared.types.Times.{Times}
use Rattle.sequence_values.specs.declared.types.SeqEntry.{SeqEntry}
use Rattle.sequence_values.specs.declared.types.SeqWhy.{SeqWhy}
use Rattle.sequence_values.specs.declared.types.SeqWhy.TheVariants as why
use Rattle.sequence_check.specs.Walks.{IsFirstLate, AreBelow, IsPosed, IsPosedRow, IsUncovered, IsSpare, IsPast}
use Rattle.sequence_check.specs.Walks.{AnswersStep, ServesUnit}
use Rattle.sequence_check.specs.declared.types.SeqEntryFault.{SeqEntryFault}
use Rattle.sequence_check.specs.declared.types.SeqEntryFault.TheVariants as fault
use Rattle.sequence_check.specs.declared.types.Checked.{Checked}
use Rattle.sequence_check.specs.declared.types.Checked.TheVariants as found
use Rattle.sequence_check.specs.declared.types.SeqEntryChecked.{SeqEntryChecked}
use Rattle.sequence_check.specs.declared.types.SeqEntryChecked.TheVariants as checked

-- the cites of a reason, where it has some
abbrev pub cites_of : SeqWhy → Option (List ℕ)
cites_of why.Bound = None
cites_of (why.Branch cites) = Some cites
cites_of (why.Charge cites) = Some cites

-- an entry may be checked: its rows where it is by Charge, else its state
abbrev pub IsPosedBy : Times → ℕ → ℕ → List ℕ → SeqEntry → SeqWhy → Type 0
IsPosedBy t interval reach charges e why.Bound = IsPosed t interval reach e.rem e.starts
IsPosedBy t interval reach charges e (why.Branch cites) = IsPosed t interval reach e.rem e.starts
IsPosedBy t interval reach charges e (why.Charge cites) = IsPosedRow t reach charges e

abbrev pub IsPosedEntry : Times → ℕ → ℕ → List ℕ → SeqEntry → Type 0
IsPosedEntry t interval reach charges e = IsPosedBy t interval reach charges e e.why

-- how many models are gone over, whether a model is walked as a step, and whether its step or unit needs a cite
abbrev pub models_by : List ℕ → SeqEntry → SeqWhy → ℕ
models_by charges e why.Bound = length e.rem
models_by charges e (why.Branch cites) = length e.rem
models_by charges e (why.Charge cites) = length charges

abbrev pub is_walked : SeqEntry → SeqWhy → ℕ → Bool
is_walked e why.Bound model = is_left e.rem model
is_walked e (why.Branch cites) model = is_left e.rem model
is_walked e (why.Charge cites) model = true

abbrev pub is_open : Times → ℕ → ℕ → List ℕ → SeqEntry → SeqWhy → ℕ → Bool
is_open t interval reach charges e why.Bound model = needs_cite t interval reach e.rem e.starts e.least model
is_open t interval reach charges e (why.Branch cites) model = needs_cite t interval reach e.rem e.starts e.least model
is_open t interval reach charges e (why.Charge cites) model = is_light t reach charges e.starts e.least model

-- a cite is one for the step, or the unit, of a model
abbrev pub IsCiteFor : Times → ℕ → ℕ → List ℕ → List SeqEntry → SeqEntry → SeqWhy → ℕ → ℕ → Type 0
IsCiteFor t interval reach charges earlier e why.Bound model cite =
    AnswersStep t interval reach charges earlier e.rem e.starts e.least model cite
IsCiteFor t interval reach charges earlier e (why.Branch cites) model cite =
    AnswersStep t interval reach charges earlier e.rem e.starts e.least model cite
IsCiteFor t interval reach charges earlier e (why.Charge cites) model cite =
    ServesUnit t interval reach charges earlier e model cite

-- the reason has cites, of which this is true
abbrev pub Cites : SeqWhy → (List ℕ → Type 0) → Type 0
Cites w P = (cites : List ℕ) × ((cites_of w ≡ Some cites) × P cites)

-- an entry may be walked: it has a unit, and each cite is of an earlier entry
pub record IsReady (earlier : List SeqEntry) (e : SeqEntry) (cites : List ℕ) : Type 0 where
  pub some : 0 < sum e.rem
  pub below : AreBelow cites (length earlier)

-- The first thing that is wrong with the entry by this reason, and the steps walked up to it.
abbrev pub FailsBy : Times → ℕ → ℕ → List ℕ → List SeqEntry → SeqEntry → SeqWhy → SeqEntryFault → ℕ → Type 0
FailsBy t interval reach charges earlier e w (fault.Bound b) units =
    (w ≡ why.Bound) × (b ≡ state_bound t interval reach e.rem e.starts) × (b < e.least) × (units ≡ 0)
FailsBy t interval reach charges earlier e w fault.Empty units = Cites w (λ cites. sum e.rem ≡ 0) × (units ≡ 0)
FailsBy t interval reach charges earlier e w (fault.Cite x) units = Cites w
    (λ cites. (0 < sum e.rem) × IsFirstLate cites (length earlier) x) × (units ≡ 0)
FailsBy t interval reach charges earlier e w (fault.Uncovered model) units =
    Cites w (λ cites. IsReady earlier e cites × (model < models_by charges e w)
    × IsUncovered (is_open t interval reach charges e w) (IsCiteFor t interval reach charges earlier e w) cites model
    × (units ≡ length (passing (is_walked e w) (suc model))))
FailsBy t interval reach charges earlier e w fault.Spare units =
    Cites w (λ cites. IsReady earlier e cites
    × IsSpare (is_open t interval reach charges e w) (IsCiteFor t interval reach charges earlier e w) cites
    (models_by charges e w) × (units ≡ units_by charges e w))

abbrev pub Fails : Times → ℕ → ℕ → List ℕ → List SeqEntry → SeqEntry → SeqEntryFault → ℕ → Type 0
Fails t interval reach charges earlier e fault units = FailsBy t interval reach charges earlier e e.why fault units

-- some step of the entry is walked as one more than `steps`, and every check up to it held
abbrev pub EndsBy : Times → ℕ → ℕ → List ℕ → List SeqEntry → SeqEntry → SeqWhy → ℕ → Type 0
EndsBy t interval reach charges earlier e w steps =
    Cites w (λ cites. IsReady earlier e cites
    × IsPast (is_open t interval reach charges e w) (IsCiteFor t interval reach charges earlier e w) cites
    (is_walked e w) (models_by charges e w) steps)

abbrev pub Ends : Times → ℕ → ℕ → List ℕ → List SeqEntry → SeqEntry → ℕ → Type 0
Ends t interval reach charges earlier e steps = EndsBy t interval reach charges earlier e e.why steps

-- what is found of an entry by this reason
abbrev pub IsFoundBy : Times → ℕ → ℕ → List ℕ → List SeqEntry → SeqEntry → SeqWhy → ℕ → Checked SeqEntryFault → Type 0
IsFoundBy t interval reach charges earlier e w steps (found.Right units) =
    FollowsBy t interval reach charges earlier e w × (units ≡ units_by charges e w) × (units ≤ steps)
IsFoundBy t interval reach charges earlier e w steps (found.Fails why units) =
    FailsBy t interval reach charges earlier e w why units × (units ≤ steps)
IsFoundBy t interval reach charges earlier e w steps found.StepsEnded =
    EndsBy t interval reach charges earlier e w steps

-- what is found of an entry
abbrev pub IsFound : Times → ℕ → ℕ → List ℕ → List SeqEntry → SeqEntry → ℕ → Checked SeqEntryFault → Type 0
IsFound t interval reach charges earlier e steps found =
    IsFoundBy t interval reach charges earlier e e.why steps found

-- what is found of an entry after others, where the fault isn't told
abbrev pub IsChecked : Times → ℕ → ℕ → List ℕ → List SeqEntry → SeqEntry → ℕ → SeqEntryChecked → Type 0
IsChecked t interval reach charges earlier e steps (checked.Right units) =
    Follows t interval reach charges earlier e × (units ≡ entry_units charges e) × (units ≤ steps)
IsChecked t interval reach charges earlier e steps (checked.Fails units) =
    (why : SeqEntryFault) × (Fails t interval reach charges earlier e why units × (units ≤ steps))
IsChecked t interval reach charges earlier e steps checked.StepsEnded = Ends t interval reach charges earlier e steps

-- what isn't right: an entry that fails doesn't follow, and one where the steps ended has more units, if it follows
abbrev pub IsRuledOut : Times → ℕ → ℕ → List ℕ → List SeqEntry → SeqEntry → ℕ → SeqEntryChecked → Type 0
IsRuledOut t interval reach charges earlier e steps (checked.Right units) = Unit {0}
IsRuledOut t interval reach charges earlier e steps (checked.Fails units) =
    Follows t interval reach charges earlier e → ⊥
IsRuledOut t interval reach charges earlier e steps checked.StepsEnded = Follows t interval reach charges earlier e
    → steps < entry_units charges e
