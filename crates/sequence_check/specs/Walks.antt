-- What a walk over the models finds, which takes a cite for each step or unit that needs one. The walk over the steps
-- of a state (by Branch, and of a frame) and that over a unit of each model (by Charge) are of one form.
use Rattle.std.specs.Prelude.{◌≡◌, ℕ, suc, ◌+◌, ◌-◌, ◌<◌, ◌≤◌, ◌⊎◌, Bool, true, false, List, length, slice_get, Some}
use Rattle.std.specs.Prelude.{sum, All}
use Rattle.sequence_rules.specs.States.{step_cost, next_starts, less_one}
use Rattle.sequence_rules.specs.Charges.{AreCharges, unit_cost}
use Rattle.sequence_rules.specs.Entries.{IsCited, IsServed, row_units, passing}
use Rattle.sequence_rules.specs.Ranges.{AreTimes, AreStarts}
use Rattle.sequence_values.specs.declared.types.Times.{Times}
use Rattle.sequence_values.specs.declared.types.SeqEntry.{SeqEntry}
use Rattle.sequence_check.specs.declared.types.Walked.{Walked}
use Rattle.sequence_check.specs.declared.types.Walked.TheVariants as walked

-- x is the first of the cites that isn't below k
pub record IsFirstLate (cites : List ℕ) (k x : ℕ) : Type 0 where
  pub place : ℕ
  pub there : slice_get cites place ≡ Some x
  pub late : k ≤ x
  pub earlier : (p y : ℕ) → p < place → slice_get cites p ≡ Some y → y < k

-- every cite is below k
abbrev pub AreBelow : List ℕ → ℕ → Type 0
AreBelow cites k = (p x : ℕ) → slice_get cites p ≡ Some x → x < k

-- a state of these models and stations, of at most 16,000 units, whose starts are at most 1,000,000,000
pub record IsPosed (t : Times) (interval reach : ℕ) (rem starts : List ℕ) : Type 0 where
  pub times : AreTimes t
  pub interval_limit : interval ≤ 1000000000
  pub reach_limit : reach ≤ 1000000000
  pub each : length rem ≡ length t.demands
  pub units : sum rem ≤ 16000
  pub wide : length starts ≡ t.stations
  pub begun : All (λ s. s ≤ 1000000000) starts

-- rows of these models with charges, at most 16,000 units long, from starts that are at most 1,000,000,000
pub record IsPosedRow (t : Times) (reach : ℕ) (charges : List ℕ) (e : SeqEntry) : Type 0 where
  pub times : AreTimes t
  pub reach_limit : reach ≤ 1000000000
  pub priced : AreCharges t charges
  pub units : row_units e ≤ 16000
  pub starts : AreStarts t e.starts

-- entries that may be cited: by Charge each is of at most 16,000 units, and the charges are at most 10^14
pub record AreCitable (charges : List ℕ) (es : List SeqEntry) : Type 0 where
  pub limit : All (λ a. a ≤ 100000000000000) charges
  pub rows : (k : ℕ) (e : SeqEntry) → slice_get es k ≡ Some e → row_units e ≤ 16000

-- numbers in order, of which those that pass the test take a cite that is one for them
module _ (test : ℕ → Bool) (Cited : ℕ → ℕ → Type 0) (cites : List ℕ) where
  -- how many numbers below n need a cite
  abbrev pub needed : ℕ → ℕ
  needed n = length (passing test n)

  -- the first cites cover the numbers below n that need one
  pub record CoversBelow (n : ℕ) : Type 0 where
    pub enough : needed n ≤ length cites
    pub cited : (p m cite : ℕ) → slice_get (passing test n) p ≡ Some m → slice_get cites p ≡ Some cite → Cited m cite

  -- this number is the first that needs a cite and has none left, or whose cite isn't one for it
  pub record IsUncovered (m : ℕ) : Type 0 where
    pub needs : test m ≡ true
    pub before : CoversBelow m
    pub fails : (cite : ℕ) → slice_get cites (needed m) ≡ Some cite → Cited m cite → ⊥

  -- the numbers below n are covered by fewer cites than there are
  pub record IsSpare (n : ℕ) : Type 0 where
    pub covers : CoversBelow n
    pub left : needed n < length cites

  -- how many cites are taken with a number, where so many are taken before it
  abbrev pub Takes : ℕ → ℕ → ℕ → Type 0
  Takes m taken more =
      ((test m ≡ false) × (more ≡ taken))
      ⊎ ((test m ≡ true) × (more ≡ taken + 1) × (cite : ℕ) × ((slice_get cites taken ≡ Some cite) × Cited m cite))

  -- the number needs a cite, and the next one is missing or not one for it
  pub record Lacks (m taken : ℕ) : Type 0 where
    pub needs : test m ≡ true
    pub fails : (cite : ℕ) → slice_get cites taken ≡ Some cite → Cited m cite → ⊥

  -- the numbers that are walked, each as a step
  module _ (visited : ℕ → Bool) where
    -- The number, below n, is walked as one more than `steps`, and those before it are covered.
    pub record IsPast (n steps : ℕ) : Type 0 where
      pub model : ℕ
      pub below : model < n
      pub walked : visited model ≡ true
      pub counts : length (passing visited model) ≡ steps
      pub before : CoversBelow model

    -- what is found of the numbers below n, and how many are walked
    abbrev pub Tells : ℕ → ℕ → Walked → Type 0
    Tells n steps (walked.Through units taken) = CoversBelow n × (taken ≡ needed n)
        × (units ≡ length (passing visited n)) × (units ≤ steps)
    Tells n steps (walked.Uncovered model units) = (model < n) × IsUncovered model
        × (units ≡ length (passing visited (suc model))) × (units ≤ steps)
    Tells n steps walked.StepsEnded = IsPast n steps

-- the entry of this number answers the state after the step by a model, and what the step leaves of the need
abbrev pub AnswersStep : Times → ℕ → ℕ → List ℕ → List SeqEntry → List ℕ → List ℕ → ℕ → ℕ → ℕ → Type 0
AnswersStep t interval reach charges es rem starts need model cite =
    IsCited charges es cite (less_one rem model) (next_starts t interval reach model starts)
    (need - step_cost t reach model starts)

-- the entry of this number serves what comes after a unit of a model, and what the unit leaves of the base (own)
abbrev pub ServesUnit : Times → ℕ → ℕ → List ℕ → List SeqEntry → SeqEntry → ℕ → ℕ → Type 0
ServesUnit t interval reach charges es e model cite =
    IsServed es cite (row_units e - 1) (next_starts t interval reach model e.starts)
    (e.least - unit_cost t reach charges e.starts model)
