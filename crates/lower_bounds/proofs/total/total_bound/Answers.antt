use Rattle.std.proofs.Common.{◌≤◌, subst, sym}
use Rattle.line_rules.proofs.All.{In-all}
use Rattle.line_rules.proofs.BoundIsTrue.{total_bound_le}
use Rattle.lower_bounds.proofs.total.total_bound.Goals as goal

pub returns-clause-below_all : goal.returns-clause-below_all
returns-clause-below_all c = λ kind r b.
    subst (λ n. n ≤ r) (sym c.by_total_time.ensures)
    (total_bound_le kind c.args.inst.now c.args.cycle c.requires 0
    (In-all c.args.inst.now 0 c.tasks-tasks.ensures.line.small c.tasks-tasks.ensures.line.some) r b.0 b.1)
