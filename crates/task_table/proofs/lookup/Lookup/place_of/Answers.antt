use Rattle.std.proofs.Common.{sym, subst}
use Rattle.task_names.specs.TaskNames.{AreDistinct}
use Rattle.task_table.proofs.LookupFacts.{named_here}
use Rattle.task_table.proofs.lookup.Lookup.place_of.Goals as goal

pub returns-in-Some-clause-place : goal.returns-in-Some-clause-place
returns-in-Some-clause-place c =
    sym (named_here c.args.self.now c.args.name.now c.in-Some.task
    (subst AreDistinct c.self.view_is c.self.invariant.0) c.in-Some.ensures.task c.in-Some.ensures.named)
