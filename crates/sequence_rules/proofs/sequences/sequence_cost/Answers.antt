use Rattle.std.proofs.Common.{◌≡◌, ℕ, List, ap, get_or, replicate, arith}
use Rattle.std.proofs.lemmas.List.{length-replicate}
use Rattle.utility_work.specs.Utility.{utility_from}
use Rattle.sequence_rules.specs.States.{unit_work}
use Rattle.sequence_rules.proofs.SumFacts.{sum_more}
use Rattle.sequence_rules.proofs.UnitCounts.{noughts}
use Rattle.sequence_rules.proofs.sequences.sequence_cost.Goals as goal

pub loop-k-preserved : goal.loop-k-preserved
loop-k-preserved c =
    let f : ℕ → ℕ → ℕ = λ k s. utility_from c.args.reach c.args.interval (λ m. unit_work c.args.times.now m k) s
    c.args.sequence.now in
    let root : List ℕ = replicate c.args.times.now.stations 0 in
    let here : f c.loop-k.k (get_or root c.loop-k.k 0) ≡ f c.loop-k.k 0 =
    ap (λ s. f c.loop-k.k s) (noughts c.args.times.now.stations c.loop-k.k) in
    record {
      total = omega (
        arith,
        c.loop-k.invariant.total,
        sum_more f root c.loop-k.k
            (omega (arith, length-replicate {A = ℕ} c.args.times.now.stations 0)),
        here,
        c.station_cost-total.ensures.cost,
      );
      limit = omega (arith, c.loop-k.invariant.limit, c.station_cost-total.ensures.limit);
    }
