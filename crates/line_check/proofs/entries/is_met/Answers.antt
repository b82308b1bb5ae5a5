use Rattle.std.proofs.Common.{Bool, List, sym, subst}
use Rattle.line_instance.specs.Truths.{IsSubset}
use Rattle.line_instance.proofs.Members.{In-meet, In-meet_parts}
use Rattle.line_check.proofs.entries.is_met.Goals as goal

pub returns : goal.returns
returns c =
    let P : List Bool → Type 0 = λ s. IsSubset s c.args.other.now in (
      λ t i m r. subst P c.meet.ensures.value (c.is_subset.ensures.0 t) i (In-meet c.args.set.now c.args.row.now i m r),
      λ h. c.is_subset.ensures.1 (subst P (sym c.meet.ensures.value)
          (λ i m. h i (In-meet_parts c.args.set.now c.args.row.now i m).0
          (In-meet_parts c.args.set.now c.args.row.now i m).1)),
    )
