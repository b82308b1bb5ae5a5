use Rattle.std.proofs.Common.{◌≡◌, ℕ, ◌<◌, ◌*◌}
use Rattle.std.specs.Prelude.{ltb}
use Rattle.line_instance.specs.Truths.{AreWords, truth_at}
use Rattle.line_instance.proofs.sets.TaskSet.full_to.Given as goal

-- the truths of the first k words are right
abbrev pub invariant-loop-k : goal.invariant-loop-k
invariant-loop-k l = record {
  words : AreWords l.words;
  below : (j : ℕ) → j < 64 * l.k → truth_at l.words j ≡ ltb j l.n;
}
