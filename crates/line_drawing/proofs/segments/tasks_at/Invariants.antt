use Rattle.std.proofs.Common.{◌≡◌, ◌++◌, drop}
use Rattle.std.specs.Prelude.{filter}
use Rattle.line_rules.specs.Balance.{seat}
use Rattle.line_drawing.specs.Segments.{stands, tasks_at}
use Rattle.line_drawing.proofs.segments.tasks_at.Given as goal

abbrev pub invariant-loop-rank : goal.invariant-loop-rank
invariant-loop-rank l = l.found.items ++ filter (λ i. stands l.side l.station (seat l.places i))
    (drop l.rank l.inst.order) ≡ tasks_at l.inst l.places l.side l.station
