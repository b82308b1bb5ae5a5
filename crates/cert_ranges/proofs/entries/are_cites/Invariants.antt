use Rattle.std.proofs.Common.{◌<◌}
use Rattle.cert_ranges.proofs.Items.{EachBelow}
use Rattle.cert_ranges.proofs.entries.are_cites.Given as goal

abbrev pub invariant-loop-p : goal.invariant-loop-p
invariant-loop-p l = EachBelow (λ cite. cite < l.count) l.cites l.p
