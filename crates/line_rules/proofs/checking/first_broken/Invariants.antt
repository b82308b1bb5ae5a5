use Rattle.std.proofs.Common.{◌<◌, ℕ}
use Rattle.line_instance.specs.Truths.{In}
use Rattle.line_instance.specs.Line.{Before}
use Rattle.line_rules.specs.Balance.{Keeps, all_tasks, seat}
use Rattle.line_rules.proofs.checking.first_broken.Given as goal

abbrev pub invariant-loop-i : goal.invariant-loop-i
invariant-loop-i l = (k j : ℕ) → k < l.i → In (all_tasks l.inst) j → Before l.inst k j
    → Keeps l.kind (seat l.balance.place k) (seat l.balance.place j)
