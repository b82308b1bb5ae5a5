use Rattle.std.proofs.Common.{◌∙◌, ◌+◌, arith, length, get_or}
use Rattle.std.proofs.lemmas.List.{length-set}
use Rattle.combined_graph.specs.Mixes.{model_at}
use Rattle.utility_work.specs.Utility.{work_at, station_utility}
use Rattle.utility_work.proofs.WorkSteps.{one_value, same_utility}
use Rattle.utility_work.proofs.Total.{total_below}
use Rattle.utility_work.proofs.work.utility.Goals as goal

pub utility_at-requires-clause-models : goal.utility_at-requires-clause-models
utility_at-requires-clause-models c = λ k d less. omega (
  arith,
  c.requires.models k d less,
  c.tasks-tasks.ensures.mix.draft.models,
)

pub loop-k-preserved : goal.loop-k-preserved
loop-k-preserved c =
    let value =
    same_utility (λ m. get_or c.works_at-works.result m 0) (λ m.
    work_at c.args.balance.now.place (c.loop-k.k + 1) (model_at c.args.mix.now.models m))
    (length c.args.mix.now.models)
    (get_or c.args.lengths.now c.loop-k.k 0) c.args.interval 0 c.args.sequence.now c.works_at-works.ensures.each
    c.requires.models in
    record {
      long = length-set c.loop-k.per c.loop-k.k c.utility_at.result ∙ c.loop-k.invariant.long;
      each = one_value (λ k. station_utility c.args.mix.now c.args.balance.now.place c.args.sequence.now c.args.interval
          (get_or c.args.lengths.now k 0) (k + 1)) c.loop-k.per c.loop-k.k c.utility_at.result
          (omega (arith, c.loop-k.invariant.long, c.loop-k-test.true, c.requires.lengths))
          (c.utility_at.ensures.utility ∙ value) c.loop-k.invariant.each;
    }

pub returns-clause-limit : goal.returns-clause-limit
returns-clause-limit c =
    let below =
    total_below c.args.mix.now c.args.balance.now.place c.args.sequence.now c.args.interval c.args.lengths.now
    c.loop-k.per c.tasks-tasks.ensures.mix c.requires.models
    (λ k h. c.loop-k.invariant.each k (omega (
      arith,
      h,
      c.loop-k.invariant.long,
      c.loop-k-test.false,
      c.requires.lengths,
    ))) in
    omega (arith, below, c.total_of.ensures, c.requires.few)
