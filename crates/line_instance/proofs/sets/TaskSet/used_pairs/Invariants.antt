use Rattle.std.proofs.Common.{◌≡◌, ◌≤◌, ℕ, get_or}
use Rattle.line_instance.specs.Tags.{pairs_of}
use Rattle.line_instance.proofs.sets.TaskSet.used_pairs.Given as goal

-- the pairs from k on are 0
abbrev pub invariant-loop-k : goal.invariant-loop-k
invariant-loop-k l = (j : ℕ) → l.k ≤ j → get_or (pairs_of l.self) j 0 ≡ 0
