use Rattle.sequence_search.specs.Index.{IsLooking, left_of}
use Rattle.sequence_search.proofs.book.Book.last_answer.Given as goal

abbrev pub invariant-loop-next : goal.invariant-loop-next
invariant-loop-next l = IsLooking l.self l.rem l.starts l.need l.next

abbrev pub decreases-loop-next : goal.decreases-loop-next
decreases-loop-next l = left_of l.next
