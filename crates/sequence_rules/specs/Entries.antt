-- What an entry says, and when it follows from earlier entries; derived and fresh lists of entries; and the units of an
-- entry. By Bound or Branch an entry says that every sequence from a state costs at least so much (Scholl), by Charge
-- that every row of so many units has a charged cost of at least so much (own).
use Rattle.std.specs.Prelude.{◌≡◌, ℕ, zero, suc, ◌+◌, ◌-◌, ◌*◌, ◌<◌, ◌≤◌, ◌&&◌, Bool, nat_lt, cond, List, [], ◌∷◌, ◌++◌}
use Rattle.std.specs.Prelude.{length, take, slice_get, slice_index_or, Some, sum, sum_by}
use Rattle.std.specs.List.{AllZip}
use Rattle.sequence_rules.specs.States.{step_cost, next_starts, less_one, state_bound, Holds}
use Rattle.sequence_rules.specs.Charges.{HoldsCharged, unit_cost, charges_left}
use Rattle.sequence_values.specs.declared.types.Times.{Times}
use Rattle.sequence_values.specs.declared.types.SeqEntry.{SeqEntry}
use Rattle.sequence_values.specs.declared.types.SeqWhy.{SeqWhy}
use Rattle.sequence_values.specs.declared.types.SeqWhy.TheVariants as why

-- the units of the rows that an entry by Charge speaks of: its one number (own)
abbrev pub row_units : SeqEntry → ℕ
row_units e = sum e.rem

-- what an entry says, by its reason
abbrev pub SaysBy : Times → ℕ → ℕ → List ℕ → SeqEntry → SeqWhy → Type 0
SaysBy t interval reach charges e why.Bound = Holds t interval reach e.rem e.starts e.least
SaysBy t interval reach charges e (why.Branch cites) = Holds t interval reach e.rem e.starts e.least
SaysBy t interval reach charges e (why.Charge cites) =
    HoldsCharged t interval reach charges (row_units e) e.starts e.least

abbrev pub Says : Times → ℕ → ℕ → List ℕ → SeqEntry → Type 0
Says t interval reach charges e = SaysBy t interval reach charges e e.why

-- an entry by Bound or Branch answers a state and a need: it has the same units left, starts that are no later at any
-- station, and a value of at least the need
pub record AnswersState (e : SeqEntry) (rem starts : List ℕ) (need : ℕ) : Type 0 where
  pub same : e.rem ≡ rem
  pub no_later : AllZip (λ a b. a ≤ b) e.starts starts
  pub least : need ≤ e.least

-- An entry by Charge answers a state and a need of at least 1: each model that is left has a charge, the entry has as
-- many units as are left, its starts are no later at any station, and its base is above 1000 for each of the need but
-- one, and the charges of the units that are left (own).
pub record AnswersCharged (charges : List ℕ) (e : SeqEntry) (rem starts : List ℕ) (need : ℕ) : Type 0 where
  pub some : 1 ≤ need
  pub each : length rem ≡ length charges
  pub units : sum rem ≡ row_units e
  pub no_later : AllZip (λ a b. a ≤ b) e.starts starts
  pub above : 1000 * (need - 1) + charges_left charges rem < e.least

-- an entry answers a state and a need, by its reason
abbrev pub AnswersBy : List ℕ → SeqEntry → SeqWhy → List ℕ → List ℕ → ℕ → Type 0
AnswersBy charges e why.Bound rem starts need = AnswersState e rem starts need
AnswersBy charges e (why.Branch cites) rem starts need = AnswersState e rem starts need
AnswersBy charges e (why.Charge cites) rem starts need = AnswersCharged charges e rem starts need

abbrev pub Answers : List ℕ → SeqEntry → List ℕ → List ℕ → ℕ → Type 0
Answers charges e rem starts need = AnswersBy charges e e.why rem starts need

-- the greatest need of a state that an entry answers; 0 where it answers none above that
pub record IsGreatestNeed (charges : List ℕ) (e : SeqEntry) (rem starts : List ℕ) (need : ℕ) : Type 0 where
  pub answers : 0 < need → Answers charges e rem starts need
  pub most : (n : ℕ) → Answers charges e rem starts n → n ≤ need

-- the entry of a number answers a state and a need
pub record IsCited (charges : List ℕ) (es : List SeqEntry) (cite : ℕ) (rem starts : List ℕ) (need : ℕ) : Type 0 where
  pub entry : SeqEntry
  pub there : slice_get es cite ≡ Some entry
  pub answers : Answers charges entry rem starts need

-- an entry is by Charge (own)
abbrev pub IsByCharge : SeqWhy → Type 0
IsByCharge why.Bound = ⊥
IsByCharge (why.Branch cites) = ⊥
IsByCharge (why.Charge cites) = Unit {0}

-- an entry serves so many units from these starts and a need: it is by Charge and has as many units, its starts are no
-- later at any station, and its base is at least the need (own)
pub record Serves (e : SeqEntry) (units : ℕ) (starts : List ℕ) (need : ℕ) : Type 0 where
  pub charged : IsByCharge e.why
  pub same : row_units e ≡ units
  pub no_later : AllZip (λ a b. a ≤ b) e.starts starts
  pub least : need ≤ e.least

-- the entry of a number serves so many units from these starts and a need (own)
pub record IsServed (es : List SeqEntry) (cite units : ℕ) (starts : List ℕ) (need : ℕ) : Type 0 where
  pub entry : SeqEntry
  pub there : slice_get es cite ≡ Some entry
  pub serves : Serves entry units starts need

-- a unit of the model is left
abbrev pub is_left : List ℕ → ℕ → Bool
is_left rem model = nat_lt 0 (slice_index_or rem model 0)

-- The step by a model needs a cite: a unit of it is left, the step costs less than the need, and the bound of the next
-- state is below what is left of the need.
abbrev pub needs_cite : Times → ℕ → ℕ → List ℕ → List ℕ → ℕ → ℕ → Bool
needs_cite t interval reach rem starts need model =
    is_left rem model
    && (nat_lt (step_cost t reach model starts) need
    && nat_lt (state_bound t interval reach (less_one rem model) (next_starts t interval reach model starts))
    (need - step_cost t reach model starts))

-- the numbers below n that pass a test, in order
abbrev pub passing : (ℕ → Bool) → ℕ → List ℕ
passing test zero = []
passing test (suc n) = passing test n ++ cond (test n) (n ∷ []) []

-- The models below n whose step needs a cite are as many as the cites, and each of them goes, in order, with a cite of
-- an entry that answers its next state and what is left of the need.
pub record Covers (t : Times) (interval reach : ℕ) (charges : List ℕ) (es : List SeqEntry) (rem starts : List ℕ)
    (need n : ℕ) (cites : List ℕ) : Type 0 where
  pub as_many : length cites ≡ length (passing (needs_cite t interval reach rem starts need) n)
  pub cited : (p model cite : ℕ)
      → slice_get (passing (needs_cite t interval reach rem starts need) n) p ≡ Some model
      → slice_get cites p ≡ Some cite
      → IsCited charges es cite (less_one rem model) (next_starts t interval reach model starts)
      (need - step_cost t reach model starts)

-- Branch: a unit is left, and each step that needs a cite goes with one of an earlier entry
pub record FollowsByBranch (t : Times) (interval reach : ℕ) (charges : List ℕ) (earlier : List SeqEntry) (e : SeqEntry)
    (cites : List ℕ) : Type 0 where
  pub some : 0 < sum e.rem
  pub covers : Covers t interval reach charges earlier e.rem e.starts e.least (length e.rem) cites

-- a unit of the model needs a cite of a row: its charged cost is below the base (own)
abbrev pub is_light : Times → ℕ → List ℕ → List ℕ → ℕ → ℕ → Bool
is_light t reach charges starts base model = nat_lt (unit_cost t reach charges starts model) base

-- Charge: there is a unit. The models of which a unit needs a cite are as many as the cites, and each of them goes, in
-- order, with a cite of an earlier entry, which serves the units left, where the unit leads, and the rest of the base
-- (own).
pub record FollowsByCharge (t : Times) (interval reach : ℕ) (charges : List ℕ) (earlier : List SeqEntry) (e : SeqEntry)
    (cites : List ℕ) : Type 0 where
  pub some : 0 < row_units e
  pub as_many : length cites ≡ length (passing (is_light t reach charges e.starts e.least) (length charges))
  pub cited : (p model cite : ℕ)
      → slice_get (passing (is_light t reach charges e.starts e.least) (length charges)) p ≡ Some model
      → slice_get cites p ≡ Some cite
      → IsServed earlier cite (row_units e - 1) (next_starts t interval reach model e.starts)
      (e.least - unit_cost t reach charges e.starts model)

-- the entry follows from earlier ones in the way that it says: by Bound, where the bound of its state is at least its
-- value; by Branch; or by Charge
abbrev pub FollowsBy : Times → ℕ → ℕ → List ℕ → List SeqEntry → SeqEntry → SeqWhy → Type 0
FollowsBy t interval reach charges earlier e why.Bound = e.least ≤ state_bound t interval reach e.rem e.starts
FollowsBy t interval reach charges earlier e (why.Branch cites) =
    FollowsByBranch t interval reach charges earlier e cites
FollowsBy t interval reach charges earlier e (why.Charge cites) =
    FollowsByCharge t interval reach charges earlier e cites

abbrev pub Follows : Times → ℕ → ℕ → List ℕ → List SeqEntry → SeqEntry → Type 0
Follows t interval reach charges earlier e = FollowsBy t interval reach charges earlier e e.why

-- a derived list: each entry follows from those before it
abbrev pub IsDerived : Times → ℕ → ℕ → List ℕ → List SeqEntry → Type 0
IsDerived t interval reach charges es = (k : ℕ) (e : SeqEntry) → slice_get es k ≡ Some e
    → Follows t interval reach charges (take k es) e

-- an entry by Bound or Branch answers a state and a need
pub record AnswersPlainly (e : SeqEntry) (rem starts : List ℕ) (need : ℕ) : Type 0 where
  pub plain : IsByCharge e.why → ⊥
  pub answers : AnswersState e rem starts need

-- A list is fresh from a number on: none of these entries but those by Charge has its own state and value answered by
-- an earlier one by Bound or Branch.
abbrev pub IsFreshFrom : ℕ → List SeqEntry → Type 0
IsFreshFrom n es = (j k : ℕ) (a b : SeqEntry) → n ≤ k → j < k → slice_get es j ≡ Some a → slice_get es k ≡ Some b
    → (IsByCharge b.why → ⊥) → AnswersPlainly a b.rem b.starts b.least → ⊥

-- a fresh list: from its first entry on
abbrev pub IsFresh : List SeqEntry → Type 0
IsFresh es = IsFreshFrom 0 es

-- an entry of the list answers a state and a need
abbrev pub HasAnswer : List ℕ → List SeqEntry → List ℕ → List ℕ → ℕ → Type 0
HasAnswer charges es rem starts need = (cite : ℕ) × IsCited charges es cite rem starts need

-- of how many of the models below n a unit is left
abbrev pub models_left : List ℕ → ℕ → ℕ
models_left rem n = length (passing (is_left rem) n)

-- the units of an entry: by Branch one for each model of which a unit is left, by Charge one for each model, and none
-- by Bound
abbrev pub units_by : List ℕ → SeqEntry → SeqWhy → ℕ
units_by charges e why.Bound = 0
units_by charges e (why.Branch cites) = models_left e.rem (length e.rem)
units_by charges e (why.Charge cites) = length charges

abbrev pub entry_units : List ℕ → SeqEntry → ℕ
entry_units charges e = units_by charges e e.why

-- the sum of the units of the entries
abbrev pub units_of : List ℕ → List SeqEntry → ℕ
units_of charges es = sum_by (entry_units charges) es
