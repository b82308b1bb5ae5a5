use Rattle.std.proofs.Common.{◌≡◌, ◌+◌, drop}
use Rattle.std.specs.Prelude.{filter}
use Rattle.line_drawing.specs.Segments.{tasks_at, times_of}
use Rattle.balance_plan.specs.inner.Sides.{has_place}
use Rattle.balance_plan.proofs.plan.time_of.Given as goal

abbrev pub invariant-loop-rank : goal.invariant-loop-rank
invariant-loop-rank l = l.sum + times_of l.inst (filter (has_place l.places l.place) (drop l.rank l.inst.order))
    ≡ times_of l.inst (tasks_at l.inst l.places l.place.side l.place.station)
