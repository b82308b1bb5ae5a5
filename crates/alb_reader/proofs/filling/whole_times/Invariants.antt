use Rattle.std.proofs.Common.{◌≡◌, ◌<◌, ℕ, length, get_or, Some, None}
use Rattle.alb_reader.proofs.filling.whole_times.Given as goal

abbrev pub invariant-loop-i : goal.invariant-loop-i
invariant-loop-i l = record {
  many : length l.times.items ≡ l.i;
  each : (j : ℕ) → j < l.i → get_or l.given j None ≡ Some (get_or l.times.items j 0);
}
