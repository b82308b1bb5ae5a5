use Rattle.std.proofs.Common.{◌≡◌, ◌<◌, ◌≤◌, ◌+◌, ◌/◌, ◌%◌, ℕ, length, get_or}
use Rattle.combined_graph.specs.Mixes.{model_at}
use Rattle.utility_work.specs.Utility.{work_at}
use Rattle.sequence_search.proofs.tables.station_times.Given as goal

abbrev pub invariant-loop-i : goal.invariant-loop-i
invariant-loop-i l = record {
  each : length l.work.items ≡ l.i;
  work : (j : ℕ) → j < l.i → get_or l.work.items j 0 ≡ work_at l.balance.place (j % l.stations + 1)
      (model_at l.mix.models (j / l.stations));
  limit : (j : ℕ) → j < l.i → get_or l.work.items j 0 ≤ 1024000000000;
}
