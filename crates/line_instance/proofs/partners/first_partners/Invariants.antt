use Rattle.line_instance.specs.inner.Inside.{of_rows}
use Rattle.line_instance.proofs.KeptPartners.{IsKeeping}
use Rattle.line_instance.proofs.partners.first_partners.Given as goal

abbrev pub invariant-loop-j : goal.invariant-loop-j
invariant-loop-j l = IsKeeping (of_rows l.times l.before l.apart) l.i l.kept l.j
