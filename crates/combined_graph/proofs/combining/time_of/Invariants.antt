use Rattle.std.proofs.Common.{◌≡◌, ◌≤◌, ◌*◌, take}
use Rattle.combined_graph.specs.Combined.{combined_time}
use Rattle.combined_graph.proofs.combining.time_of.Given as goal

abbrev pub invariant-loop-m : goal.invariant-loop-m
invariant-loop-m l = record {
  sum : l.time ≡ combined_time (take l.m l.models) l.task;
  small : l.time ≤ 10000000000000 * l.m;
}
