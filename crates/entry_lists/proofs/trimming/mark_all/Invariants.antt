use Rattle.std.proofs.Common.{take}
use Rattle.entry_lists.specs.Trim.{AreMarked}
use Rattle.entry_lists.proofs.trimming.mark_all.Given as goal

abbrev pub invariant-loop-cite : goal.invariant-loop-cite
invariant-loop-cite l = AreMarked l.initial.marks (take l.cite-index l.cites) l.marks
