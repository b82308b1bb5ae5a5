use Rattle.std.proofs.Common.{take, ◌∷◌}
use Rattle.std.specs.List.{flat_map}
use Rattle.cert_lines.specs.Numbers.{number_text}
use Rattle.cert_text.specs.Sent.{Puts}
use Rattle.cert_text.proofs.writing.put_cites.Given as goal

abbrev pub invariant-loop-cite : goal.invariant-loop-cite
invariant-loop-cite g l = Puts g.O.Output.told (g.O.Output.sent l.initial.out)
    (flat_map (λ d. 44 ∷ number_text d) (take l.cite-index l.cite-items)) (g.O.Output.sent l.out)
