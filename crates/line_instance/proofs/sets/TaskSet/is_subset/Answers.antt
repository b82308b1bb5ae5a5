use Rattle.std.proofs.Common.{sym, List, Bool, subst}
use Rattle.line_instance.specs.Truths.{IsEmpty}
use Rattle.line_instance.proofs.Bits.{minus_empty, subset_minus}
use Rattle.line_instance.proofs.sets.TaskSet.is_subset.Goals as goal

pub returns : goal.returns
returns c =
    let P : List Bool → Type 0 = λ t. IsEmpty t in (
      λ e. minus_empty c.args.self.now c.args.other.now (subst P c.minus.ensures.value (c.is_empty.ensures.0 e)),
      λ h. c.is_empty.ensures.1 (subst P (sym c.minus.ensures.value) (subset_minus c.args.self.now c.args.other.now h)),
    )
