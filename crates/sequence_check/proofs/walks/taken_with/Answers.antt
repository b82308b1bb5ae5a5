use Rattle.std.proofs.Common.{◌-◌, ◌<◌, refl, inr}
use Rattle.sequence_rules.specs.States.{step_cost, next_starts, less_one}
use Rattle.sequence_check.proofs.WalkFacts.{cited_from}
use Rattle.sequence_check.proofs.walks.taken_with.Goals as goal

pub returns-clause-some : goal.returns-clause-some
returns-clause-some c =
    let low : c.at.result.now < c.args.k = c.requires.cites c.args.taken c.at.result.now c.at.ensures in
    inr (
      c.in-Some.ensures.needs,
      refl,
      c.at.result.now,
      (
        c.at.ensures,
        cited_from c.args.charges.now c.args.entries.now c.args.k c.at.result.now c.at-cited.result.now
            (less_one c.args.rem.now c.args.model)
            _ (next_starts c.args.times.now c.args.interval c.args.reach c.args.model c.args.starts.now) _
            (c.args.need - step_cost c.args.times.now c.args.reach c.args.model c.args.starts.now) c.in-Some.rest
            low c.at-cited.ensures (c.answers.ensures.0 c.if-not-answers.false) c.in-Some.ensures.left
            c.in-Some.ensures.next c.in-Some.ensures.rest,
      ),
    )
