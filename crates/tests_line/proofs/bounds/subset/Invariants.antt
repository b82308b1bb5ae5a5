use Rattle.line_instance.specs.Line.{IsTaskSet}
use Rattle.tests_line.proofs.bounds.subset.Given as goal

abbrev pub invariant-loop-i : goal.invariant-loop-i
invariant-loop-i l = IsTaskSet l.inst l.set
