use Rattle.line_rules.specs.Ranges.{IsPlaced}
use Rattle.cert_ranges.proofs.Items.{EachBelow}
use Rattle.cert_ranges.proofs.certificate.is_placing.Given as goal

abbrev pub invariant-loop-i : goal.invariant-loop-i
invariant-loop-i l = EachBelow (IsPlaced l.kind l.stations) l.balance.place l.i
