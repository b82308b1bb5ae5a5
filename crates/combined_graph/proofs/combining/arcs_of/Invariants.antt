use Rattle.std.proofs.Common.{◌≡◌, ◌++◌, drop}
use Rattle.combined_graph.specs.Combined.{all_arcs}
use Rattle.combined_graph.proofs.combining.arcs_of.Given as goal

abbrev pub invariant-loop-m : goal.invariant-loop-m
invariant-loop-m l = l.arcs.items ++ all_arcs (drop l.m l.models) ≡ all_arcs l.models
