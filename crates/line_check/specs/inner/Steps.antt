-- One step of a walk: the cite of one load, and the chained tasks that its tests keep.
use Rattle.std.specs.Prelude.{◌≡◌, ◌↔◌, ℕ, ◌+◌, ◌-◌, ◌⊎◌, Bool, List, slice_get, Some}
use Rattle.line_instance.specs.Truths.{In}
use Rattle.line_instance.specs.Line.{Line}
use Rattle.line_rules.specs.Bounds.{IsChained}
use Rattle.line_rules.specs.Loads.{rest}
use Rattle.line_rules.specs.Entries.{IsOpen, Cites}
use Rattle.line_rules.specs.declared.types.LineKind.{LineKind}
use Rattle.line_rules.specs.declared.types.LineKind.TheVariants.{Straight}
use Rattle.line_rules.specs.declared.types.Mode.{Mode}
use Rattle.line_rules.specs.declared.types.Load.{Load}
use Rattle.line_rules.specs.declared.types.Entry.{Entry}
use Rattle.check_loads.specs.declared.questions.Question.{Question}

-- exactly the tasks of the question's set that are chained for a station less than it asks for, on a straight line
abbrev pub AreChained : Line → Question → List Bool → Type 0
AreChained line q s = (j : ℕ) → In s j ↔ IsChained Straight line q.cycle q.set (q.most - 1) j

module _ (kind : LineKind) (line : Line) (c : ℕ) (mode : Mode) (R : List Bool) (most : ℕ) (earlier : List Entry)
    (cites : List ℕ) (load : Load) (taken : ℕ) where
  -- no cite is left for the load, or the cite doesn't refute its rest
  abbrev pub IsLacking : Type 0
  IsLacking = (cite : ℕ) → slice_get cites taken ≡ Some cite → Cites earlier cite (rest R load) (most - 1) c → ⊥

  -- the next cite refutes the rest of the load
  pub record IsCovered : Type 0 where
    pub cite : ℕ
    pub there : slice_get cites taken ≡ Some cite
    pub refutes : Cites earlier cite (rest R load) (most - 1) c

  -- so many cites are taken with the load: no more where the bound doesn't leave its rest open, else one more
  abbrev pub Takes : ℕ → Type 0
  Takes more = ((IsOpen kind line c mode R most load → ⊥) × (more ≡ taken))
      ⊎ (IsOpen kind line c mode R most load × IsCovered × (more ≡ taken + 1))
