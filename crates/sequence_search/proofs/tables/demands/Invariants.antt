use Rattle.std.proofs.Common.{◌≡◌, map, take}
use Rattle.sequence_search.specs.Tables.{demand_of}
use Rattle.sequence_search.proofs.tables.demands.Given as goal

abbrev pub invariant-loop-m : goal.invariant-loop-m
invariant-loop-m l = l.demands.items ≡ map demand_of (take l.m l.mix.models)
