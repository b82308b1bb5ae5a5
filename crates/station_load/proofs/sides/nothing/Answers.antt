use Rattle.line_rules.specs.Sides.{nothing_yet}
use Rattle.line_rules.proofs.NextLoad.{same_pair}
use Rattle.station_load.proofs.sides.nothing.Goals as goal

pub returns : goal.returns
returns c = same_pair c.empty.result nothing_yet.front c.empty-2.result nothing_yet.back c.empty.ensures.value
    c.empty-2.ensures.value
