use Rattle.line_instance.specs.inner.Inside.{of_rows}
use Rattle.line_instance.proofs.KeptPartners.{IsTabling}
use Rattle.line_instance.proofs.partners.keep_partners.Given as goal

abbrev pub invariant-loop-i : goal.invariant-loop-i
invariant-loop-i l = IsTabling (of_rows l.times l.before l.apart) l.partners l.i
