use Rattle.std.proofs.Common.{arith, sym, subst, ap, ◌∙◌, List, Bool}
use Rattle.line_instance.specs.Line.{tasks}
use Rattle.line_instance.specs.Truths.{IsEmpty, meet, minus}
use Rattle.line_instance.proofs.Bits.{minus_empty, subset_minus}
use Rattle.line_instance.proofs.LowWords.{low_common, low_left}
use Rattle.line_instance.proofs.instance.Instance.is_covered.Goals as goal

pub take_out_low-requires : goal.take_out_low-requires
take_out_low-requires c =
    low_common c.args.set.now c.args.other.now c.meet_low-left.result (tasks c.args.self.now) c.requires (omega arith)
    c.meet_low-left.ensures.value

pub is_empty_low-requires : goal.is_empty_low-requires
is_empty_low-requires c =
    low_left c.meet_low-left.result c.args.by.now c.take_out_low.new.self
    (low_common c.args.set.now c.args.other.now c.meet_low-left.result (tasks c.args.self.now) c.requires (omega arith)
    c.meet_low-left.ensures.value) c.take_out_low.ensures.value

pub returns-then-tasks-le-LOW_TASKS : goal.returns-then-tasks-le-LOW_TASKS
returns-then-tasks-le-LOW_TASKS c =
    let P : List Bool → Type 0 = λ t. IsEmpty t in
    let both = meet c.args.set.now c.args.other.now in
    let e = c.take_out_low.ensures.value ∙ ap (λ a. minus a c.args.by.now) c.meet_low-left.ensures.value in (
      λ r. minus_empty both c.args.by.now (subst P e (c.is_empty_low.ensures.0 r)),
      λ h. c.is_empty_low.ensures.1 (subst P (sym e) (subset_minus both c.args.by.now h)),
    )
