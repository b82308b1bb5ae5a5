use Rattle.std.proofs.Common.{arith}
use Rattle.line_rules.proofs.SumsOverMembers.{weight_start, all_in_start}
use Rattle.line_rules.proofs.SizeClasses.{next_fits}
use Rattle.check_loads.proofs.chains.is_longer.Goals as goal

pub loop-i-init : goal.loop-i-init
loop-i-init c =
    let e = c.into_iter-i-iterator.ensures.into_iter_gives in
    record {
      can_next = tt;
      finite = tt;
      members = all_in_start _ _ e;
      so_far = weight_start _ _ _ _ c.requires.tasks e;
      within = omega arith;
    }

pub overflow_add-sum : goal.overflow_add-sum
overflow_add-sum c = omega (
  arith,
  c.time-sum.ensures.time,
  next_fits c.args.set.now c.loop-i.sum c.tasks-tasks.ensures.line c.in-Some.ensures.steps c.loop-i.invariant.so_far,
)
