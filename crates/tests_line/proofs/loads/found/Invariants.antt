use Rattle.std.proofs.Common.{IfSome}
use Rattle.line_rules.specs.Loads.{IsLoad}
use Rattle.line_rules.specs.declared.types.Mode.TheVariants.{Fore}
use Rattle.tests_line.proofs.loads.found.Given as goal

abbrev pub invariant-steps : goal.invariant-steps
invariant-steps l = IfSome l.next (IsLoad l.inst l.cycle Fore l.set)
