use Rattle.std.proofs.Common.{◌≡◌}
use Rattle.beam_search.proofs.beams.Levels.list_rest.Given as goal

abbrev pub invariant-loop : goal.invariant-loop
invariant-loop l = l.self.wanted ≡ l.fn.self.wanted
