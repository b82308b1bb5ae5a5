use Rattle.line_rules.proofs.LoadPlaces.{three_ways}
use Rattle.line_rules.proofs.laws.order_is_total.Goals as goal

pub returns : goal.returns
returns c = three_ways
