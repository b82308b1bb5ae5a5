use Rattle.std.proofs.Common.{arith}
use Rattle.sequence_check.proofs.EntryFacts.{right_none, right_more, all_right}
use Rattle.sequence_check.proofs.entries.check_entries.Goals as goal

pub loop-k-init : goal.loop-k-init
loop-k-init c = record {
  below = right_none c.args.times.now c.args.interval c.args.reach c.args.charges.now c.args.entries.now;
  few = omega arith;
}

pub check_entry-requires-clause-posed : goal.check_entry-requires-clause-posed
check_entry-requires-clause-posed c = c.requires.posed c.loop-k.k c.at.result.now c.at.ensures

pub returns-in-Fails : goal.returns-in-Fails
returns-in-Fails c = record {
  units = c.loop-k.units;
  below = c.loop-k.invariant.below;
  entry = c.at.result.now;
  there = c.at.ensures;
  more = c.in-Fails.units;
  fails = c.in-Fails.ensures.0;
  few = omega (arith, c.loop-k.invariant.few, c.in-Fails.ensures.1);
}

pub returns-in-StepsEnded : goal.returns-in-StepsEnded
returns-in-StepsEnded c = record {
  at = c.loop-k.k;
  units = c.loop-k.units;
  below = c.loop-k.invariant.below;
  few = c.loop-k.invariant.few;
  entry = c.at.result.now;
  there = c.at.ensures;
  ends = c.in-StepsEnded.ensures;
}

pub loop-k-preserved : goal.loop-k-preserved
loop-k-preserved c = record {
  below = right_more c.args.times.now c.args.interval c.args.reach c.args.charges.now c.args.entries.now c.loop-k.k
      c.loop-k.units
      c.in-Right.more c.at.result.now c.at.ensures c.loop-k.invariant.below c.in-Right.ensures.0 c.in-Right.ensures.1;
  few = omega (arith, c.loop-k.invariant.few, c.in-Right.ensures.2);
}

pub returns : goal.returns
returns c = all_right c.args.times.now c.args.interval c.args.reach c.args.charges.now c.args.entries.now
    c.loop-k.k c.loop-k.units
    c.args.steps (omega (arith, c.loop-k-test.false, c.len-k-end.ensures)) c.loop-k.invariant.few
    c.loop-k.invariant.below
