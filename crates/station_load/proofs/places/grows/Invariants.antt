use Rattle.std.proofs.Common.{◌<◌, ℕ}
use Rattle.line_rules.specs.Sides.{MayJoin}
use Rattle.station_load.proofs.places.grows.Given as goal

abbrev pub invariant-loop-task : goal.invariant-loop-task
invariant-loop-task l = (i : ℕ) → i < l.task → MayJoin l.inst l.cycle l.set l.side l.load i → ⊥
