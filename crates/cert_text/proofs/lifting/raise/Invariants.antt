use Rattle.std.proofs.Common.{◌≡◌, ◌+◌, take, map}
use Rattle.cert_text.proofs.lifting.raise.Given as goal

abbrev pub invariant-loop-cite : goal.invariant-loop-cite
invariant-loop-cite l = l.more ≡ map (λ cite. cite + l.earlier) (take l.cite-index l.cite-items)
