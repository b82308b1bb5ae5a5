use Rattle.std.proofs.Common.{arith}
use Rattle.mix_files.proofs.Demand.{demand_below}
use Rattle.mix_files.proofs.mix_file.combine_models.Goals as goal

pub returns-in-Good-clause-limit : goal.returns-in-Good-clause-limit
returns-in-Good-clause-limit c =
    let draft = c.tasks-tasks.ensures.mix.draft in
    omega (
      arith,
      demand_below c.args.mix.tasks c.args.mix.models draft.each,
      draft.models,
      c.in-Good.ensures.combined.1,
    )
