use Rattle.std.proofs.Common.{◌≡◌, ◌+◌, ◌-◌, ◌*◌, ◌≤◌, sum, get_or, arith, ap}
use Rattle.sequence_rules.specs.States.{work_left}
use Rattle.sequence_rules.proofs.SumFacts.{sum_more}
use Rattle.sequence_rules.proofs.steps.state_bound.Goals as goal

pub loop-k-preserved : goal.loop-k-preserved
loop-k-preserved c =
    let more = sum_more (λ k s. s + work_left c.args.times.now c.args.rem.now
    k - c.args.reach - (sum c.args.rem.now - 1) * c.args.interval) c.args.starts.now c.loop-k.k (omega arith) in
    let room : (c.units_left-units.result - 1) * c.args.interval ≡ (sum c.args.rem.now - 1) * c.args.interval =
    ap (λ n. (n - 1) * c.args.interval) c.units_left-units.ensures in
    let begun : get_or c.args.starts.now c.loop-k.k 0 ≤ 1000000000 = c.requires.starts c.loop-k.k 0 (omega arith) in
    record {
      bound = omega (
        arith,
        c.loop-k.invariant.bound,
        more,
        room,
        c.work_left.ensures.work,
        c.saturating_sub.ensures,
        c.saturating_sub-bound.ensures,
      );
      limit = omega (
        arith,
        c.loop-k.invariant.limit,
        begun,
        c.work_left.ensures.limit,
        c.saturating_sub.ensures,
        c.saturating_sub-bound.ensures,
      );
    }
