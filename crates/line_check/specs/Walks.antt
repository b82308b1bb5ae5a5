-- What a walk over loads finds, which takes a cite for each load that needs one.
use Rattle.std.specs.Prelude.{◌≡◌, ℕ, ◌+◌, ◌-◌, ◌<◌, ◌≤◌, Bool, List, length, take, slice_get, Some}
use Rattle.line_instance.specs.Line.{Line}
use Rattle.line_rules.specs.Loads.{rest}
use Rattle.line_rules.specs.Order.{Precedes, UpTo, Counts}
use Rattle.line_rules.specs.Entries.{Cites, Covers}
use Rattle.line_rules.specs.declared.types.Load.{Load}
use Rattle.line_rules.specs.declared.types.Entry.{Entry}
use Rattle.line_check.specs.declared.types.Walked.{Walked}
use Rattle.line_check.specs.declared.types.Walked.TheVariants as walked

-- x is the first of the cites that isn't below k
pub record IsFirstLate (cites : List ℕ) (k x : ℕ) : Type 0 where
  pub place : ℕ
  pub there : slice_get cites place ≡ Some x
  pub late : k ≤ x
  pub earlier : (p y : ℕ) → p < place → slice_get cites p ≡ Some y → y < k

-- every cite is below k
abbrev pub AreBelow : List ℕ → ℕ → Type 0
AreBelow cites k = (p x : ℕ) → slice_get cites p ≡ Some x → x < k

-- the loads that pass W are walked, and those that pass P need a cite of an entry that refutes the rest of R with one
-- station less
module _ (line : Line) (W P : Load → Type 0) (earlier : List Entry) (R : List Bool) (most c : ℕ) (cites : List ℕ) where
  -- so many loads are walked up to and including this one
  abbrev pub CountsTo : Load → ℕ → Type 0
  CountsTo load units = Counts line (λ k. W k × UpTo line (Some load) k) units

  -- the first cites cover the loads before this one
  abbrev pub CoversBefore : Load → ℕ → Type 0
  CoversBefore load taken = (taken ≤ length cites) × Covers line (λ k. P k × Precedes line k load) earlier R most c
      (take taken cites)

  -- the load is the first that needs a cite and has none left, or isn't covered by it
  pub record IsUncovered (load : Load) : Type 0 where
    pub needs : P load
    pub taken : ℕ
    pub before : CoversBefore load taken
    pub fails : (cite : ℕ) → slice_get cites taken ≡ Some cite → Cites earlier cite (rest R load) (most - 1) c → ⊥

  -- the loads are covered by fewer cites than there are
  pub record IsSpare : Type 0 where
    pub taken : ℕ
    pub left : taken < length cites
    pub covers : Covers line P earlier R most c (take taken cites)

  -- Some load is walked as one more than `steps`, and those before it are covered.
  pub record IsPast (steps : ℕ) : Type 0 where
    pub load : Load
    pub walked : W load
    pub counts : CountsTo load (steps + 1)
    pub taken : ℕ
    pub before : CoversBefore load taken

  -- what is found, and of how many loads
  abbrev pub Tells : ℕ → Walked → Type 0
  Tells steps (walked.Right units) = Covers line P earlier R most c cites × Counts line W units × (units ≤ steps)
  Tells steps (walked.Uncovered load units) = IsUncovered load × CountsTo load units × (units ≤ steps)
  Tells steps (walked.Spare units) = IsSpare × Counts line W units × (units ≤ steps)
  Tells steps walked.StepsEnded = IsPast steps
