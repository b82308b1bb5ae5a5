use Rattle.std.proofs.Common.{◌≡◌, ◌≤◌, ◌+◌, drop}
use Rattle.std.specs.Prelude.{filter, map}
use Rattle.line_drawing.specs.Segments.{tasks_at, times_of}
use Rattle.sheet_rows.specs.SheetRows.{with_rows}
use Rattle.balance_plan.specs.Plan.{plan_record}
use Rattle.balance_plan.specs.inner.Sides.{has_place, turns_on}
use Rattle.balance_plan.proofs.plan.put_side.Given as goal

abbrev pub invariant-loop-rank : goal.invariant-loop-rank
invariant-loop-rank l = record {
  next : l.next + times_of l.inst (filter (has_place l.places l.place) (drop l.rank l.inst.order)) ≤
      1000000000000000000;
  put : with_rows l.sheet (map (plan_record l.inst l.names)
      (turns_on l.inst l.place l.next (filter (has_place l.places l.place) (drop l.rank l.inst.order))))
      ≡ with_rows l.fn.sheet (map (plan_record l.inst l.names)
      (turns_on l.inst l.place l.start (tasks_at l.inst l.places l.place.side l.place.station)));
}
