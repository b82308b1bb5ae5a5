use Rattle.std.proofs.Common.{◌≡◌, length}
use Rattle.task_table.specs.Marks.{past_ends}
use Rattle.task_table.proofs.mark.past_ends.Given as goal

abbrev pub decreases-loop-left : goal.decreases-loop-left
decreases-loop-left l = length l.left

abbrev pub invariant-loop-left : goal.invariant-loop-left
invariant-loop-left l = past_ends l.left ≡ past_ends l.bytes
