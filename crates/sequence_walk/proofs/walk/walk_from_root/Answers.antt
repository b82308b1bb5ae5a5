use Rattle.std.proofs.Common.{ℕ, ◌-◌, arith}
use Rattle.sequence_walk.specs.Walks.{LayerHasSteps}
use Rattle.sequence_walk.proofs.WalkFacts.{layer_more, walk_ended}
use Rattle.sequence_walk.proofs.walk.walk_from_root.Goals as goal

pub loop-left-preserved : goal.loop-left-preserved
loop-left-preserved c =
    let spent : ℕ = c.loop-left.units - c.next_layer.new.units in
    let taken : LayerHasSteps c.args.table.now.times c.loop-left.last.layer spent =
    rw c.in-Some.is at c.in_ok-candidates.ensures.steps in
    record {
      layers = omega (arith, c.in_ok-push.ensures.len, c.loop-left.invariant.layers, c.loop-left-test.true);
      fewer = omega (arith, c.next_layer.ensures.fewer, c.loop-left.invariant.fewer);
      steps = layer_more c.args.table.now.times c.loop-left.layers.items c.push.new.self.items c.loop-left.last
          (c.args.units.now - c.loop-left.units) spent
          (c.args.units.now - c.next_layer.new.units) c.in_ok-push.ensures.items c.loop-left.invariant.steps taken
          (omega (arith, c.next_layer.ensures.fewer, c.loop-left.invariant.fewer));
    }

pub returns-clause-steps : goal.returns-clause-steps
returns-clause-steps c = walk_ended c.args.table.now.times c.loop-left.layers.items c.push-2.new.self.items
    c.loop-left.last (c.args.units.now - c.loop-left.units) c.in_ok-push-2.ensures.items c.loop-left.invariant.steps
