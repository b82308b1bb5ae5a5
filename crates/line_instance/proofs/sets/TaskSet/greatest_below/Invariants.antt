use Rattle.std.proofs.Common.{ℕ, ◌<◌, ◌≤◌, ◌*◌}
use Rattle.line_instance.specs.Truths.{In, truths_of}
use Rattle.line_instance.proofs.sets.TaskSet.greatest_below.Given as goal

-- each member below i is in the words below k
abbrev pub invariant-loop-k : goal.invariant-loop-k
invariant-loop-k l = record {
  within : l.k ≤ l.at;
  none : (j : ℕ) → In (truths_of l.self-inside.words) j → j < l.i → j < 64 * l.k;
}
