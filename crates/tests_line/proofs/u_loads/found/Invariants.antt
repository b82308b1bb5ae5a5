use Rattle.std.proofs.Common.{IfSome}
use Rattle.line_rules.specs.Loads.{IsLoad}
use Rattle.line_rules.specs.declared.types.Mode.TheVariants.{Both}
use Rattle.tests_line.proofs.u_loads.found.Given as goal

abbrev pub invariant-steps : goal.invariant-steps
invariant-steps l = IfSome l.next (IsLoad l.inst l.cycle Both l.set)
