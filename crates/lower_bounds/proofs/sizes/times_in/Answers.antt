use Rattle.std.proofs.Common.{arith}
use Rattle.line_rules.proofs.SumsOverMembers.{weight_start, all_in_start}
use Rattle.line_rules.proofs.SizeClasses.{longest_start, next_fits, times_end}
use Rattle.lower_bounds.proofs.sizes.times_in.Goals as goal

pub loop-i-init : goal.loop-i-init
loop-i-init c =
    let e = c.into_iter-i-iterator.ensures.into_iter_gives in
    record {
      can_next = tt;
      finite = tt;
      members = all_in_start _ _ e;
      total = weight_start _ _ _ _ c.requires.tasks e;
      longest = longest_start _ _ _ c.requires.tasks e;
    }

pub overflow_add-times : goal.overflow_add-times
overflow_add-times c = omega (
  arith,
  c.time-time.ensures.time,
  next_fits c.args.set.now c.loop-i.times.total c.tasks-tasks.ensures.line c.in-Some.ensures.steps
      c.loop-i.invariant.total,
)

pub returns-clause-times : goal.returns-clause-times
returns-clause-times c = times_end c.tasks-tasks.ensures.line c.requires c.in-None.ensures.steps.0
    c.loop-i.invariant.total c.loop-i.invariant.longest
