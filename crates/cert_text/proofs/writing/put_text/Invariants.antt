use Rattle.std.proofs.Common.{take}
use Rattle.cert_text.specs.Sent.{Puts}
use Rattle.cert_text.proofs.writing.put_text.Given as goal

abbrev pub invariant-loop-byte : goal.invariant-loop-byte
invariant-loop-byte g l = Puts g.O.Output.told (g.O.Output.sent l.initial.out) (take l.byte-index l.text)
    (g.O.Output.sent l.out)
