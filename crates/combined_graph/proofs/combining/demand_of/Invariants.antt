use Rattle.std.proofs.Common.{◌≡◌, ◌≤◌, ◌*◌, take}
use Rattle.combined_graph.specs.Combined.{total_demand}
use Rattle.combined_graph.proofs.combining.demand_of.Given as goal

abbrev pub invariant-loop-m : goal.invariant-loop-m
invariant-loop-m l = record {
  sum : l.total ≡ total_demand (take l.m l.models);
  small : l.total ≤ 10000 * l.m;
}
