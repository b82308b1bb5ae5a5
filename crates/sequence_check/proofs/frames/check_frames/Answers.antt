use Rattle.std.proofs.Common.{arith}
use Rattle.sequence_check.proofs.FrameFacts.{frames_none, frames_more, all_frames}
use Rattle.sequence_check.proofs.frames.check_frames.Goals as goal

pub loop-j-init : goal.loop-j-init
loop-j-init c = record {
  below = frames_none c.args.times.now c.args.interval c.args.reach c.args.charges.now c.args.entries.now
      c.args.frames.now;
  few = omega arith;
}

pub returns-in-Fails : goal.returns-in-Fails
returns-in-Fails c = record {
  units = c.loop-j.units;
  below = c.loop-j.invariant.below;
  frame = c.at-frame.result.now;
  there = c.at-frame.ensures;
  more = c.in-Fails.units;
  fails = c.in-Fails.ensures.0;
  few = omega (arith, c.loop-j.invariant.few, c.in-Fails.ensures.1);
}

pub returns-in-StepsEnded : goal.returns-in-StepsEnded
returns-in-StepsEnded c = record {
  at = c.loop-j.j;
  units = c.loop-j.units;
  below = c.loop-j.invariant.below;
  few = c.loop-j.invariant.few;
  frame = c.at-frame.result.now;
  there = c.at-frame.ensures;
  ends = c.in-StepsEnded.ensures;
}

pub loop-j-preserved : goal.loop-j-preserved
loop-j-preserved c = record {
  below = frames_more c.args.times.now c.args.interval c.args.reach c.args.charges.now c.args.entries.now
      c.args.frames.now c.loop-j.j
      c.loop-j.units c.in-Right.more c.at-frame.result.now c.at-frame.ensures c.loop-j.invariant.below
      c.in-Right.ensures.0 c.in-Right.ensures.1;
  few = omega (arith, c.loop-j.invariant.few, c.in-Right.ensures.2);
}

pub returns : goal.returns
returns c = all_frames c.args.times.now c.args.interval c.args.reach c.args.charges.now c.args.entries.now
    c.args.frames.now c.loop-j.j
    c.loop-j.units c.args.steps (omega (arith, c.loop-j-test.false, c.len-j-end.ensures)) c.loop-j.invariant.few
    c.loop-j.invariant.below
