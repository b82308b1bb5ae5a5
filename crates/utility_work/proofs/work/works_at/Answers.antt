use Rattle.std.proofs.Common.{◌∙◌, arith}
use Rattle.combined_graph.specs.Mixes.{model_at}
use Rattle.utility_work.specs.Utility.{work_at}
use Rattle.utility_work.proofs.WorkSteps.{one_value, values_limit}
use Rattle.std.proofs.lemmas.List.{length-set}
use Rattle.utility_work.proofs.work.works_at.Goals as goal

pub loop-m-preserved : goal.loop-m-preserved
loop-m-preserved c = record {
  long = length-set c.loop-m.works c.loop-m.m c.work_of.result ∙ c.loop-m.invariant.long;
  each = one_value (λ m. work_at c.args.balance.now.place c.args.station (model_at c.args.mix.now.models m))
      c.loop-m.works c.loop-m.m c.work_of.result (omega (
        arith,
        c.loop-m.invariant.long,
        c.loop-m-test.true,
        c.models-m-end.ensures.few,
      )) c.work_of.ensures.work c.loop-m.invariant.each;
  limit = values_limit c.loop-m.works c.loop-m.m c.work_of.result 1024000000000
      (omega (arith, c.loop-m.invariant.long, c.loop-m-test.true, c.models-m-end.ensures.few)) c.work_of.ensures.limit
      c.loop-m.invariant.limit;
}
