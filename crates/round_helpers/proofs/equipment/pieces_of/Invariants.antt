use Rattle.std.proofs.Common.{◌≡◌, ◌≤◌, length, take, vec_capacity}
use Rattle.round_helpers.specs.inner.Pieces.{pieces_of}
use Rattle.round_helpers.proofs.equipment.pieces_of.Given as goal

abbrev pub invariant-loop-k : goal.invariant-loop-k
invariant-loop-k l = record {
  some : l.k ≤ length l.jobs;
  pieces : l.pieces.items ≡ pieces_of l.most (take l.k l.jobs);
  room : length l.jobs ≤ vec_capacity l.pieces;
}
