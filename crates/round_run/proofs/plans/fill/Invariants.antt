use Rattle.std.proofs.Common.{◌/◌, ◌≤◌, vec_capacity}
use Rattle.round_run.proofs.PurseFacts.{IsFilling}
use Rattle.round_run.proofs.plans.fill.Given as goal

abbrev pub invariant-loop-made : goal.invariant-loop-made
invariant-loop-made l = record {
  some : l._made ≤ l.plan.helpers;
  filling : IsFilling (l.plan.units / l.plan.helpers) l._made l.helper.items;
  room : l.plan.helpers ≤ vec_capacity l.helper;
}
