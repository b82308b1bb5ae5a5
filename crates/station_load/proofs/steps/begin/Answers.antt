use Rattle.std.proofs.Common.{◌∙◌, sym, ap}
use Rattle.line_instance.specs.Line.{has}
use Rattle.line_instance.specs.Sums.{sum_where}
use Rattle.line_rules.specs.Loads.{taken}
use Rattle.line_rules.proofs.ScanFacts.{nothing_sum}
use Rattle.station_load.proofs.steps.begin.Goals as goal

pub stand_at-requires-clause-sum : goal.stand_at-requires-clause-sum
stand_at-requires-clause-sum c = sym (ap (λ l. sum_where (has (taken l)) c.args.inst.now.times) c.nothing.ensures
    ∙ nothing_sum c.args.inst.now)
