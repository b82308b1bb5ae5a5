use Rattle.std.specs.Vec.Iter.{into_iter_items}
use Rattle.round_helpers.proofs.PassFacts.{IsJoining}
use Rattle.round_helpers.proofs.teams.join_all.Given as goal

abbrev pub invariant-loop-helper : goal.invariant-loop-helper
invariant-loop-helper l = record {
  joining : IsJoining l.share l.fn.pass l.fn.helpers.items (into_iter_items l.helper-iterator) l.pass;
}
