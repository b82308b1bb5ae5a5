use Rattle.std.proofs.Common.{IfSome}
use Rattle.line_rules.specs.Loads.{IsLoad}
use Rattle.station_load.specs.Walking.{IsWalk}
use Rattle.tests_line.proofs.loads.agree.Given as goal

abbrev pub invariant-loop-number : goal.invariant-loop-number
invariant-loop-number l = record {
  walk : IsWalk l.inst l.walk;
  plain : IfSome l.plain (IsLoad l.inst l.cycle l.fn.mode l.set);
}
