use Rattle.line_instance.specs.Truths.{In}
use Rattle.line_instance.proofs.Members.{members}
use Rattle.line_rules.proofs.MembersInOrder.{IsLeft}
use Rattle.pair_rule.proofs.EachTwo.{Faces}
use Rattle.pair_rule.proofs.conflicts.each_two_conflict.Given as goal

abbrev pub decreases-left : goal.decreases-left
decreases-left l = members l.left

abbrev pub invariant-left : goal.invariant-left
invariant-left l = IsLeft (In l.two) (Faces l.kind l.inst l.cycle l.set l.two) l.left
