use Rattle.std.proofs.Common.{◌≡◌, ◌≤◌, ◌*◌, take, map, nat_eq}
use Rattle.std.specs.Prelude.{unwrap_or}
use Rattle.combined_graph.specs.Mixes.{model_at}
use Rattle.line_instance.specs.Sums.{sum_where}
use Rattle.line_rules.specs.Balance.{seat}
use Rattle.utility_work.proofs.work.work_of.Given as goal

abbrev pub invariant-loop-task : goal.invariant-loop-task
invariant-loop-task l = record {
  sum : l.work ≡ sum_where (λ t. nat_eq (seat l.balance.place t).station l.station)
      (take l.task (map (λ time. unwrap_or time 0) (model_at l.mix.models l.model).times));
  limit : l.work ≤ 1000000000 * l.task;
}
