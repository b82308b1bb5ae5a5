use Rattle.std.proofs.Common.{arith}
use Rattle.sequence_rules.proofs.RowFacts.{unit_light}
use Rattle.sequence_rules.proofs.charging.unit_cost.Goals as goal

pub returns-clause-light : goal.returns-clause-light
returns-clause-light c = λ light begun. omega (
  arith,
  c.step-work.ensures.cost,
  unit_light c.args.times.now c.args.reach c.args.charges.now c.args.starts.now c.args.model c.requires.times light
      c.requires.charges c.requires.starts.wide begun,
)
