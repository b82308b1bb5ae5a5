use Rattle.entry_lists.proofs.MarkFacts.{IsPassed}
use Rattle.entry_lists.proofs.trimming.marks_of.Given as goal

abbrev pub invariant-loop-k : goal.invariant-loop-k
invariant-loop-k l = IsPassed l.entries l.goal l.k l.marks.items
