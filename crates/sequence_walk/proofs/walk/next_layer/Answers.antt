use Rattle.std.proofs.Common.{◌-◌, arith}
use Rattle.sequence_walk.specs.Walks.{HasSteps}
use Rattle.sequence_walk.proofs.WalkFacts.{one_more}
use Rattle.sequence_walk.proofs.walk.next_layer.Goals as goal

pub loop-from-preserved : goal.loop-from-preserved
loop-from-preserved c = record {
  fewer = omega (arith, c.push_steps.ensures.fewer, c.loop-from.invariant.fewer);
  steps = one_more (HasSteps c.args.table.now.times c.args.layer.now) c.loop-from.from
      (c.args.units.now - c.loop-from.units) (c.loop-from.units - c.push_steps.new.units)
      (c.args.units.now - c.push_steps.new.units) c.loop-from.invariant.steps
      (c.in_ok-push_steps.ensures.steps c.if-not-branch.false)
      (omega (arith, c.push_steps.ensures.fewer, c.loop-from.invariant.fewer));
}
