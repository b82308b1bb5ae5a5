use Rattle.std.proofs.Common.{arith}
use Rattle.line_check.proofs.ListFacts.{right_more, all_right}
use Rattle.line_check.proofs.lists.check_entries.Goals as goal

pub check_entry-requires-clause-set : goal.check_entry-requires-clause-set
check_entry-requires-clause-set c = let r = c.requires.range.each c.loop-k.k c.at.result.now c.at.ensures in
    record { truths = r.set.truths; tasks = r.set.tasks }

pub check_entry-requires-clause-cycle : goal.check_entry-requires-clause-cycle
check_entry-requires-clause-cycle c = let r = c.requires.range.each c.loop-k.k c.at.result.now c.at.ensures in r.cycle

pub returns-in-Fails : goal.returns-in-Fails
returns-in-Fails c = record {
  units = c.loop-k.units;
  below = c.loop-k.invariant.below;
  entry = c.at.result.now;
  there = c.at.ensures;
  more = c.in-Fails.units;
  fails = c.in-Fails.ensures.0;
  few = omega (arith, c.loop-k.invariant.few, c.in-Fails.ensures.1);
}

pub returns-in-StepsEnded : goal.returns-in-StepsEnded
returns-in-StepsEnded c = record {
  at = c.loop-k.k;
  units = c.loop-k.units;
  below = c.loop-k.invariant.below;
  few = c.loop-k.invariant.few;
  entry = c.at.result.now;
  there = c.at.ensures;
  ends = c.in-StepsEnded.ensures;
}

pub loop-k-preserved : goal.loop-k-preserved
loop-k-preserved c = record {
  below = right_more c.args.kind c.args.inst.now c.args.entries.now c.loop-k.k c.loop-k.units c.in-Right.more
      c.at.result.now c.at.ensures c.loop-k.invariant.below c.in-Right.ensures.0 c.in-Right.ensures.1;
  few = omega (arith, c.loop-k.invariant.few, c.in-Right.ensures.2);
}

pub returns : goal.returns
returns c = all_right c.args.kind c.args.inst.now c.args.entries.now c.loop-k.k c.loop-k.units c.args.steps
    (omega (arith, c.loop-k-test.false, c.len-k-end.ensures)) c.loop-k.invariant.few c.loop-k.invariant.below
