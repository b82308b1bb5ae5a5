use Rattle.line_instance.proofs.Members.{members}
use Rattle.line_instance.specs.Line.{Apart}
use Rattle.line_rules.specs.Checked.{Meets}
use Rattle.line_rules.proofs.MembersInOrder.{IsLeft}
use Rattle.line_rules.proofs.checking.together_with.Given as goal

abbrev pub decreases-parted : goal.decreases-parted
decreases-parted l = members l.left

abbrev pub invariant-parted : goal.invariant-parted
invariant-parted l = IsLeft (λ j. Apart l.inst j l.i) (λ j. Meets l.inst l.balance l.i j → ⊥) l.left
