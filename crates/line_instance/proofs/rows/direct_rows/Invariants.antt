use Rattle.std.proofs.Common.{take}
use Rattle.line_instance.specs.inner.Inside.{AreDirect}
use Rattle.line_instance.proofs.rows.direct_rows.Given as goal

abbrev pub invariant-loop-arc : goal.invariant-loop-arc
invariant-loop-arc l = AreDirect l.n (take l.arc-index l.arcs) l.rows.items
