use Rattle.std.proofs.Common.{◌≤◌}
use Rattle.line_instance.specs.inner.Inside.{IsAppended}
use Rattle.line_instance.proofs.rings.append_back.Given as goal

abbrev pub invariant-loop-i : goal.invariant-loop-i
invariant-loop-i l = record { low : l.from ≤ l.i; so_far : IsAppended l.fn.list.items l.path l.i l.to l.list.items }
