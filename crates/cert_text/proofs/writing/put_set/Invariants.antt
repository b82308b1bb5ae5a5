use Rattle.std.proofs.Common.{map}
use Rattle.std.specs.List.{range_with_len}
use Rattle.cert_lines.specs.Numbers.{hex_digit, four}
use Rattle.cert_text.specs.Sent.{Puts}
use Rattle.cert_text.proofs.writing.put_set.Given as goal

abbrev pub invariant-loop-k : goal.invariant-loop-k
invariant-loop-k g l = Puts g.O.Output.told (g.O.Output.sent l.initial.out)
    (map (λ k. hex_digit (four l.tasks l.set k)) (range_with_len 0 l.k)) (g.O.Output.sent l.out)
