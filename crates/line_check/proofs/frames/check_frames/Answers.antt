use Rattle.std.proofs.Common.{arith, length}
use Rattle.line_check.proofs.FrameFacts.{frames_more, all_frames}
use Rattle.line_check.proofs.frames.check_frames.Goals as goal

pub check_frame-requires-clause-range : goal.check_frame-requires-clause-range
check_frame-requires-clause-range c = (
  length c.args.entries.now,
  c.requires.range.each c.loop-j.j c.at-frame.result.now c.at-frame.ensures,
)

pub returns-in-Fails : goal.returns-in-Fails
returns-in-Fails c = record {
  units = c.loop-j.units;
  below = c.loop-j.invariant.right;
  frame = c.at-frame.result.now;
  there = c.at-frame.ensures;
  more = c.in-Fails.units;
  fails = c.in-Fails.ensures.0;
  few = omega (arith, c.loop-j.invariant.few, c.in-Fails.ensures.1);
}

pub returns-in-StepsEnded : goal.returns-in-StepsEnded
returns-in-StepsEnded c = record {
  at = c.loop-j.j;
  units = c.loop-j.units;
  below = c.loop-j.invariant.right;
  few = c.loop-j.invariant.few;
  frame = c.at-frame.result.now;
  there = c.at-frame.ensures;
  ends = c.in-StepsEnded.ensures;
}

pub loop-j-preserved : goal.loop-j-preserved
loop-j-preserved c = record {
  right = frames_more c.args.kind c.args.inst.now c.args.trail.now.cycle c.args.entries.now c.args.trail.now.frames
      c.loop-j.j c.loop-j.units c.in-Right.more c.at-frame.result.now c.at-frame.ensures c.loop-j.invariant.right
      c.in-Right.ensures.0 c.in-Right.ensures.1;
  few = omega (arith, c.loop-j.invariant.few, c.in-Right.ensures.2);
}

pub returns : goal.returns
returns c = all_frames c.args.kind c.args.inst.now c.args.trail.now.cycle c.args.entries.now c.args.trail.now.frames
    c.loop-j.j c.loop-j.units c.args.steps c.requires.range.some
    (omega (arith, c.loop-j-test.false, c.len-j-end.ensures)) c.loop-j.invariant.few c.loop-j.invariant.right
