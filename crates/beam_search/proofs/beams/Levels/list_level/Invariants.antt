use Rattle.std.proofs.Common.{◌≡◌}
use Rattle.beam_search.proofs.beams.Levels.list_level.Given as goal

abbrev pub invariant-loop-number : goal.invariant-loop-number
invariant-loop-number l = l.self.wanted ≡ l.fn.self.wanted
