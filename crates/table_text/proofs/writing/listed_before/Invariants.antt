use Rattle.std.proofs.Common.{◌≡◌}
use Rattle.table_text.specs.TableText.{is_direct, listed, those_below}
use Rattle.table_text.proofs.writing.listed_before.Given as goal

abbrev pub invariant-loop-other : goal.invariant-loop-other
invariant-loop-other l = l.list.items ≡ listed l.names (those_below (is_direct l.inst l.task) l.other)
