use Rattle.std.proofs.Common.{◌≡◌, length}
use Rattle.task_table.specs.Lists.{past_blanks}
use Rattle.task_table.proofs.lists.past_blanks.Given as goal

abbrev pub decreases-loop-kept : goal.decreases-loop-kept
decreases-loop-kept l = length l.kept

abbrev pub invariant-loop-kept : goal.invariant-loop-kept
invariant-loop-kept l = past_blanks l.kept ≡ past_blanks l.bytes
