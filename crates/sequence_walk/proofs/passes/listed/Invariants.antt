use Rattle.std.proofs.Common.{◌≡◌, ◌≤◌, length}
use Rattle.std.specs.Prelude.{All}
use Rattle.sequence_walk.proofs.passes.listed.Given as goal

abbrev pub invariant-loop-m : goal.invariant-loop-m
invariant-loop-m l = record {
  many : length l.list.items ≡ l.m;
  each : All (λ a. a ≤ 100000000000000) l.list.items;
}
