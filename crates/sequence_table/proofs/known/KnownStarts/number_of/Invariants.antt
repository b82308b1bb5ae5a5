use Rattle.sequence_table.specs.Index.{IsLooking, left_of}
use Rattle.sequence_table.proofs.known.KnownStarts.number_of.Given as goal

abbrev pub invariant-loop-next : goal.invariant-loop-next
invariant-loop-next l = IsLooking l.self l.starts l.next

abbrev pub decreases-loop-next : goal.decreases-loop-next
decreases-loop-next l = left_of l.next
