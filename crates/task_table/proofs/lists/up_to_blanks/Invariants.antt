use Rattle.std.proofs.Common.{◌≡◌, length}
use Rattle.task_table.specs.Lists.{up_to_blanks}
use Rattle.task_table.proofs.lists.up_to_blanks.Given as goal

abbrev pub decreases-loop-kept : goal.decreases-loop-kept
decreases-loop-kept l = length l.kept

abbrev pub invariant-loop-kept : goal.invariant-loop-kept
invariant-loop-kept l = up_to_blanks l.kept ≡ up_to_blanks l.bytes
