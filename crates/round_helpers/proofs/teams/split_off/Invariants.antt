use Rattle.std.proofs.Common.{◌≤◌, length, vec_capacity}
use Rattle.std.specs.Vec.Iter.{into_iter_items}
use Rattle.round_helpers.proofs.PassFacts.{IsSplitting}
use Rattle.round_helpers.proofs.teams.split_off.Given as goal

abbrev pub invariant-loop-hand : goal.invariant-loop-hand
invariant-loop-hand l = record {
  splitting : IsSplitting l.share l.fn.pass.view.base l.fn.pass.view.seen l.units l.fn.hands
      (into_iter_items l.hand-iterator) l.helpers.items l.pass;
  room : length l.units ≤ vec_capacity l.helpers;
}
