-- Charges on models: prices on what is demanded (Lagrangean relaxation: Held and Karp, 1970; Fisher, 1981). A row is any
-- list of models, whatever is demanded. What a lemma says of rows is own. Models and stations are counted from 0, and
-- `reach` is the length of each station.
use Rattle.std.specs.Prelude.{◌≡◌, ℕ, ◌+◌, ◌*◌, ◌<◌, ◌≤◌, List, [], length, slice_index_or, Option, Some, None, sum_by}
use Rattle.std.specs.Prelude.{All}
use Rattle.sequence_values.specs.declared.types.Times.{Times}
use Rattle.sequence_rules.specs.States.{sum_over, step_cost, cost}

-- the charges of a certificate: none where it has no list of them (own)
abbrev pub listed_charges : Option (List ℕ) → List ℕ
listed_charges None = []
listed_charges (Some charges) = charges

-- the charge of a model, from the list of the charges (own)
abbrev pub charge_of : List ℕ → ℕ → ℕ
charge_of charges model = slice_index_or charges model 0

-- charges of so many models: 0 to 10^14 for each (own)
pub record IsChargesOf (models : ℕ) (charges : List ℕ) : Type 0 where
  pub each : length charges ≡ models
  pub limit : All (λ a. a ≤ 100000000000000) charges

-- the charges of a mix (own)
abbrev pub AreCharges : Times → List ℕ → Type 0
AreCharges t charges = IsChargesOf (length t.demands) charges

-- a row of so many units: any list of models that have a charge. It need not have each as often as it is wanted (own).
pub record IsRow (charges : List ℕ) (units : ℕ) (row : List ℕ) : Type 0 where
  pub many : length row ≡ units
  pub models : All (λ m. m < length charges) row

-- the charged cost of a row from these starts: 1000 times its utility work, and the charge of each of its units (own)
abbrev pub charged_cost : Times → ℕ → ℕ → List ℕ → List ℕ → List ℕ → ℕ
charged_cost t interval reach charges starts row =
    1000 * cost t interval reach starts row + sum_by (λ m. charge_of charges m) row

-- every row of so many units from these starts has a charged cost of at least `base` (own)
abbrev pub HoldsCharged : Times → ℕ → ℕ → List ℕ → ℕ → List ℕ → ℕ → Type 0
HoldsCharged t interval reach charges units starts base = (row : List ℕ) → IsRow charges units row
    → base ≤ charged_cost t interval reach charges starts row

-- the charged cost of a unit of a model that is begun at these starts (own)
abbrev pub unit_cost : Times → ℕ → List ℕ → List ℕ → ℕ → ℕ
unit_cost t reach charges starts model = 1000 * step_cost t reach model starts + charge_of charges model

-- the charges of the units that are left (own)
abbrev pub charges_left : List ℕ → List ℕ → ℕ
charges_left charges rem = sum_over (λ m units. units * charge_of charges m) rem
