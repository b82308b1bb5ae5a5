use Rattle.std.proofs.Common.{◌/◌, ◌++◌, ◌∷◌, [], ℕ, ap, ◌∙◌, arith}
use Rattle.round_run.proofs.PurseFacts.{filling_none, filling_push, filled, small_part}
use Rattle.round_run.proofs.plans.fill.Goals as goal

pub loop-made-init : goal.loop-made-init
loop-made-init c = record {
  some = omega arith;
  filling = filling_none (c.args.plan.now.units / c.args.plan.now.helpers) c.in_ok-helper.helper.items
      c.in_ok-helper.ensures.items;
  room = omega (arith, c.in_ok-helper.ensures.capacity);
}

pub loop-made-preserved : goal.loop-made-preserved
loop-made-preserved c = record {
  some = omega (arith, c.loop-made-test.true);
  filling = filling_push (c.args.plan.now.units / c.args.plan.now.helpers) c.loop-made._made c.loop-made.helper.items
      c.push_reserved.new.self.items (small_part c.args.plan.now c.requires.limit) c.loop-made.invariant.filling
      (c.push_reserved.ensures.items
      ∙ ap (λ (n : ℕ). c.loop-made.helper.items ++ record { left = c.args.plan.now.units / n; used = 0 } ∷ [])
      c.from.ensures);
  room = omega (arith, c.loop-made.invariant.room, c.push_reserved.ensures.capacity);
}

pub returns : goal.returns
returns c =
    filled c.args.plan.now c.loop-made.helper c.loop-made._made
    (omega (arith, c.loop-made-test.false, c.loop-made.invariant.some)) c.loop-made.invariant.filling
    c.requires.helpers
