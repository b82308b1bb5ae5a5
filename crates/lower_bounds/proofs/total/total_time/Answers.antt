use Rattle.std.proofs.Common.{◌∙◌, ap}
use Rattle.line_instance.specs.Line.{has}
use Rattle.line_instance.specs.Sums.{sum_where}
use Rattle.line_rules.proofs.All.{all_is}
use Rattle.lower_bounds.proofs.total.total_time.Goals as goal

pub returns-clause-total : goal.returns-clause-total
returns-clause-total c = c.sum.ensures.sum ∙ ap (λ s. sum_where (has s) c.args.inst.now.times)
    (all_is c.args.inst.now c.all.result c.tasks-tasks.ensures.line.small c.all.ensures.set
    (λ i l. (c.all.ensures.members i).1 l))
