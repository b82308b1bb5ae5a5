use Rattle.std.proofs.Common.{rules}
use Rattle.line_rules.proofs.SizeClasses.{count_start, count_turn, count_end, nothing_counts}
use Rattle.lower_bounds.proofs.sizes.counts_of.Goals as goal

pub loop-i-init : goal.loop-i-init
loop-i-init c = record {
  can_next = tt;
  finite = tt;
  counting =
      count_start c.args.cycle c.requires.set c.into_iter-i-iterator.ensures.into_iter_gives;
}

pub loop-i-preserved : goal.loop-i-preserved
loop-i-preserved c = record {
  can_next = search rules;
  finite = search rules;
  counting = count_turn c.loop-i.invariant.counting c.in-Some.ensures.steps c.time-time.ensures.time c.from.ensures
      c.from-in-loop-i.ensures c.from-in-loop-i-2.ensures c.sixths.ensures.value;
}

pub returns : goal.returns
returns c = count_end c.loop-i.invariant.counting c.tasks-tasks.ensures.line c.in-None.ensures.steps.0

pub returns-then-longest-cycle : goal.returns-then-longest-cycle
returns-then-longest-cycle c = nothing_counts c.args.inst.now c.args.set.now c.requires.set c.args.cycle c.args.longest
    c.requires.longest c.if-longest-cycle.true
