use Rattle.std.proofs.Common.{◌≡◌}
use Rattle.beam_search.proofs.beams.Levels.run.Given as goal

abbrev pub invariant-loop-level : goal.invariant-loop-level
invariant-loop-level l = (l.self.wanted ≡ l.fn.self.wanted) × (l.pairs ≡ l.fn.pairs)
