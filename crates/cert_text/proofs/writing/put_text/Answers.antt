use Rattle.std.proofs.Common.{arith, sym}
use Rattle.std.proofs.lemmas.List.{take_more, take_all}
use Rattle.cert_text.proofs.PutTexts.{nothing, puts, puts_as}
use Rattle.cert_text.proofs.writing.put_text.Goals as goal

pub loop-byte-init : goal.loop-byte-init
loop-byte-init g c = nothing _ _ _ (grind arith)

pub loop-byte-preserved : goal.loop-byte-preserved
loop-byte-preserved g c = puts _ _ _ _ _ _ _ c.loop-byte.invariant c.put.ensures
    (take_more c.args.text.now c.loop-byte.byte-index 0 c.loop-byte-test.true)

pub returns : goal.returns
returns g c = puts_as _ _ _ _ _ c.loop-byte.invariant (sym (take_all c.loop-byte.byte-index c.args.text.now
    c.loop-byte-test.false))
