use Rattle.line_check.proofs.LiftedParts.{lift_accepted, too_long_accepted}
use Rattle.line_check.proofs.laws.every_passing_lift_is_accepted.Goals as goal

pub returns : goal.returns
returns c = record { bounds = lift_accepted; too_long = too_long_accepted }
