use Rattle.std.proofs.Common.{◌≡◌, take}
use Rattle.sequence_search.proofs.book.Book.of.Given as goal

abbrev pub invariant-loop-k : goal.invariant-loop-k
invariant-loop-k l = l.book ≡ take l.k l.entries
