use Rattle.std.proofs.Common.{arith}
use Rattle.lower_bounds.proofs.SizeFacts.{gathered_none, gathered_more, gathered_all}
use Rattle.lower_bounds.proofs.by_size.longer.Goals as goal

pub loop-i-init : goal.loop-i-init
loop-i-init c = record {
  truths = c.empty-set.ensures.truths;
  gathered = gathered_none c.args.inst.now c.args.parts c.args.limit c.empty-set.result c.empty-set.ensures.value;
}

pub loop-i-preserved : goal.loop-i-preserved
loop-i-preserved c = record {
  truths = c.add_longer.ensures.truths;
  gathered = gathered_more c.args.inst.now c.args.parts c.args.limit c.loop-i.set c.add_longer.new.set c.loop-i.i
      c.loop-i.invariant.gathered c.loop-i.invariant.truths
      (omega (arith, c.loop-i-test.true, c.tasks-i-end.ensures.tasks, c.tasks-i-end.ensures.line.small))
      c.add_longer.ensures.longer c.add_longer.ensures.other;
}

pub returns : goal.returns
returns c = gathered_all c.args.inst.now c.args.parts c.args.limit c.loop-i.set c.loop-i.i c.loop-i.invariant.gathered
    (omega (arith, c.loop-i-test.false, c.loop-i.auto.i-end, c.tasks-i-end.ensures.tasks))
