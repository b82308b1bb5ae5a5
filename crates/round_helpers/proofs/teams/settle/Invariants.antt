use Rattle.std.proofs.Common.{◌≡◌, ◌≤◌, length, take}
use Rattle.round_helpers.specs.inner.Teams.{settled}
use Rattle.round_helpers.proofs.teams.settle.Given as goal

abbrev pub invariant-loop-k : goal.invariant-loop-k
invariant-loop-k l = record {
  some : l.k ≤ length l.helpers;
  done : l.units ≡ settled l.fn.units (take l.k l.helpers);
}
