use Rattle.std.proofs.Common.{◌<◌, ◌≤◌, ℕ, get_or, length}
use Rattle.line_instance.proofs.rings.least_from.Given as goal

abbrev pub invariant-loop-k : goal.invariant-loop-k
invariant-loop-k l = record {
  low : l.from ≤ l.least;
  high : l.least < length l.path;
  least : (m : ℕ) → l.from ≤ m → m < l.k → get_or l.path l.least 0 ≤ get_or l.path m 0;
}
