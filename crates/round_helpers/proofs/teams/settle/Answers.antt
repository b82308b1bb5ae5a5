use Rattle.std.proofs.Common.{arith}
use Rattle.round_helpers.proofs.SettleFacts.{settle_start, settle_turn, settle_fits}
use Rattle.round_helpers.proofs.teams.settle.Goals as goal

pub loop-k-init : goal.loop-k-init
loop-k-init c = record { some = omega arith; done = settle_start c.args.units.now }

pub overflow_add-units : goal.overflow_add-units
overflow_add-units c =
    let f = settle_fits c.args.units.now c.args.helpers.now c.loop-k.units c.loop-k.k (record { left = 0; used = 0 })
    c.index-helpers-k-in-loop-k.result (omega (arith, c.loop-k-test.true, c.requires.same)) c.loop-k-test.true
    c.loop-k.invariant.done c.requires.sums in
    omega (arith, f)

pub loop-k-preserved : goal.loop-k-preserved
loop-k-preserved c = record {
  some = omega (arith, c.loop-k-test.true);
  done = settle_turn c.args.units.now c.args.helpers.now c.loop-k.units c.loop-k.k (record { left = 0; used = 0 })
      c.index-helpers-k.result c.index-helpers-k-in-loop-k.result
      (omega (arith, c.loop-k-test.true, c.requires.same)) c.loop-k-test.true c.loop-k.invariant.done;
}
