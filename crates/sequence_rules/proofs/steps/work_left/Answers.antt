use Rattle.std.proofs.Common.{◌≡◌, ◌*◌, get_or, arith, ap}
use Rattle.std.proofs.lemmas.List.Sums.{sum_by_more}
use Rattle.std.proofs.Math.Nat.{mul-le-mul_left}
use Rattle.sequence_rules.specs.States.{unit_work}
use Rattle.sequence_rules.proofs.SumFacts.{sum_more}
use Rattle.sequence_rules.proofs.steps.work_left.Goals as goal

pub loop-m-preserved : goal.loop-m-preserved
loop-m-preserved c =
    let within = c.loop-m-test.true in
    let more = sum_more (λ m units. units * unit_work c.args.times.now m c.args.station) c.args.rem.now c.loop-m.m
    (omega arith) in
    let product : get_or c.args.rem.now c.loop-m.m 0 * c.unit_work.result
    ≡ get_or c.args.rem.now c.loop-m.m 0 * unit_work c.args.times.now c.loop-m.m c.args.station =
    ap (λ w. get_or c.args.rem.now c.loop-m.m 0 * w) c.unit_work.ensures.work in
    let few = mul-le-mul_left (get_or c.args.rem.now c.loop-m.m 0) c.unit_work.ensures.limit in
    record {
      work = omega (arith, c.loop-m.invariant.work, more, product);
      limit = omega (
        arith,
        c.loop-m.invariant.limit,
        few,
        sum_by_more (λ n. n) c.args.rem.now c.loop-m.m 0
            (omega arith),
      );
    }
