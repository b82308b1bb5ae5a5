use Rattle.std.proofs.Common.{◌≡◌, ◌≤◌, ◌<◌, ℕ, length, get_or}
use Rattle.combined_graph.specs.Combined.{combined_time}
use Rattle.combined_graph.proofs.combining.times_of.Given as goal

abbrev pub invariant-loop-task : goal.invariant-loop-task
invariant-loop-task l = record {
  many : length l.times.items ≡ l.task;
  times : (t : ℕ) → t < l.task → get_or l.times.items t 0 ≡ combined_time l.models t;
  limit : (t : ℕ) → get_or l.times.items t 0 ≤ 200000000000000;
}
