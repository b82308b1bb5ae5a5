use Rattle.std.proofs.Common.{◌≡◌}
use Rattle.beam_search.proofs.beams.Levels.keep.Given as goal

abbrev pub invariant-loop-k : goal.invariant-loop-k
invariant-loop-k l = (l.self.wanted ≡ l.fn.self.wanted) × (l.pairs ≡ l.fn.pairs)
