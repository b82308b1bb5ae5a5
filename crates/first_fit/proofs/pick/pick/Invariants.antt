use Rattle.std.proofs.Common.{◌<◌}
use Rattle.first_fit.proofs.Joins.{IsBestOf}
use Rattle.first_fit.proofs.pick.pick.Given as goal

abbrev pub invariant-loop-task : goal.invariant-loop-task
invariant-loop-task l = IsBestOf l.kind l.inst l.filling (λ a. a.task < l.task) l.best
