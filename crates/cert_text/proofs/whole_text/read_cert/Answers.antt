use Rattle.std.proofs.Common.{[]}
use Rattle.cert_text.specs.Versions.{newest, older}
use Rattle.cert_text.proofs.LineTexts.{ended_read, no_text, no_cert, read_whole, fault_whole}
use Rattle.cert_text.proofs.whole_text.read_cert.Goals as goal

pub returns-in-Err-Fault-clause-none : goal.returns-in-Err-Fault-clause-none
returns-in-Err-Fault-clause-none c = λ f e cert h t.
    no_cert c.args.bytes.now _ f cert
    (fault_whole c.args.bytes.now c.new-lines.result.left.now [] c.new-lines.result.number 0 c.in-Err-Fault.field-0
    c.in-Err-Fault.fault _ (c.in-Err-Fault.ensures.read tt) c.in-Err-Fault.field-0-is c.new-lines.ensures.number
    c.new-lines.ensures.left c.in-Err-Fault.fault-is)
    e h t

pub returns-in-Err-Fault-clause-none_newest : goal.returns-in-Err-Fault-clause-none_newest
returns-in-Err-Fault-clause-none_newest c = λ f e cert h t.
    no_text c.args.bytes.now _ f (newest cert)
    (fault_whole c.args.bytes.now c.new-lines.result.left.now [] c.new-lines.result.number 0 c.in-Err-Fault.field-0
    c.in-Err-Fault.fault _ (c.in-Err-Fault.ensures.read tt) c.in-Err-Fault.field-0-is c.new-lines.ensures.number
    c.new-lines.ensures.left c.in-Err-Fault.fault-is)
    e h t

pub returns-in-Err-Fault-clause-none_old : goal.returns-in-Err-Fault-clause-none_old
returns-in-Err-Fault-clause-none_old c = λ f e old h t.
    no_text c.args.bytes.now _ f (older old)
    (fault_whole c.args.bytes.now c.new-lines.result.left.now [] c.new-lines.result.number 0 c.in-Err-Fault.field-0
    c.in-Err-Fault.fault _ (c.in-Err-Fault.ensures.read tt) c.in-Err-Fault.field-0-is c.new-lines.ensures.number
    c.new-lines.ensures.left c.in-Err-Fault.fault-is)
    e h t

pub returns-in-Ok-clause-read : goal.returns-in-Ok-clause-read
returns-in-Ok-clause-read c =
    ended_read c.args.bytes.now c.read_all.new.source.left.now c.read_all.new.source.number c.in-Ok.cert c.ended.result
    (read_whole c.args.bytes.now c.new-lines.result.left.now c.read_all.new.source.left.now c.new-lines.result.number
    c.read_all.new.source.number c.in-Ok.cert (c.in-Ok.ensures.read tt) c.new-lines.ensures.number
    c.new-lines.ensures.left) c.ended.ensures

pub returns-in-Ok-clause-none : goal.returns-in-Ok-clause-none
returns-in-Ok-clause-none c = λ f e cert h t.
    no_cert c.args.bytes.now _ f cert
    (ended_read c.args.bytes.now c.read_all.new.source.left.now c.read_all.new.source.number c.in-Ok.cert c.ended.result
    (read_whole c.args.bytes.now c.new-lines.result.left.now c.read_all.new.source.left.now c.new-lines.result.number
    c.read_all.new.source.number c.in-Ok.cert (c.in-Ok.ensures.read tt) c.new-lines.ensures.number
    c.new-lines.ensures.left) c.ended.ensures)
    e h t

pub returns-in-Ok-clause-none_newest : goal.returns-in-Ok-clause-none_newest
returns-in-Ok-clause-none_newest c = λ f e cert h t.
    no_text c.args.bytes.now _ f (newest cert)
    (ended_read c.args.bytes.now c.read_all.new.source.left.now c.read_all.new.source.number c.in-Ok.cert c.ended.result
    (read_whole c.args.bytes.now c.new-lines.result.left.now c.read_all.new.source.left.now c.new-lines.result.number
    c.read_all.new.source.number c.in-Ok.cert (c.in-Ok.ensures.read tt) c.new-lines.ensures.number
    c.new-lines.ensures.left) c.ended.ensures)
    e h t

pub returns-in-Ok-clause-none_old : goal.returns-in-Ok-clause-none_old
returns-in-Ok-clause-none_old c = λ f e old h t.
    no_text c.args.bytes.now _ f (older old)
    (ended_read c.args.bytes.now c.read_all.new.source.left.now c.read_all.new.source.number c.in-Ok.cert c.ended.result
    (read_whole c.args.bytes.now c.new-lines.result.left.now c.read_all.new.source.left.now c.new-lines.result.number
    c.read_all.new.source.number c.in-Ok.cert (c.in-Ok.ensures.read tt) c.new-lines.ensures.number
    c.new-lines.ensures.left) c.ended.ensures)
    e h t
