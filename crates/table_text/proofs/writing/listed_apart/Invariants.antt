use Rattle.std.proofs.Common.{◌≡◌}
use Rattle.line_instance.specs.Line.{is_apart}
use Rattle.table_text.specs.TableText.{listed, those_below}
use Rattle.table_text.proofs.writing.listed_apart.Given as goal

abbrev pub invariant-loop-other : goal.invariant-loop-other
invariant-loop-other l = l.list.items ≡ listed l.names (those_below (λ i. is_apart l.inst i l.task) l.other)
