use Rattle.std.proofs.Common.{take}
use Rattle.line_rules.specs.Ranges.{AreCites}
use Rattle.cert_lines.proofs.line_forms.are_cites.Given as goal

abbrev pub invariant-loop-cite : goal.invariant-loop-cite
invariant-loop-cite l = AreCites l.count (take l.cite-index l.cites)
