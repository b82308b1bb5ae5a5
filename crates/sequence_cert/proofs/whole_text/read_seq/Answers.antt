use Rattle.std.proofs.Common.{[]}
use Rattle.text_grammar.proofs.TextFacts.{ended_read, no_text, read_whole, fault_whole}
use Rattle.sequence_cert.specs.Faults.{sequences}
use Rattle.sequence_cert.proofs.PartFacts.{sequences_tell}
use Rattle.sequence_cert.proofs.whole_text.read_seq.Goals as goal

pub read-requires-clause-tells : goal.read-requires-clause-tells
read-requires-clause-tells c = sequences_tell

pub returns-in-Err-Fault-clause-read : goal.returns-in-Err-Fault-clause-read
returns-in-Err-Fault-clause-read c =
    fault_whole sequences c.args.bytes.now c.new-lines.result.left.now [] c.new-lines.result.number
    0 c.in-Err-Fault.field-0 c.in-Err-Fault.fault _ (c.in-Err-Fault.ensures.read tt) c.in-Err-Fault.field-0-is
    c.new-lines.ensures.number c.new-lines.ensures.left c.in-Err-Fault.fault-is

pub returns-in-Err-Fault-clause-none : goal.returns-in-Err-Fault-clause-none
returns-in-Err-Fault-clause-none c = λ f e v h t.
    no_text sequences c.args.bytes.now _ f v sequences_tell (returns-in-Err-Fault-clause-read c) e h t

pub returns-in-Ok-clause-read : goal.returns-in-Ok-clause-read
returns-in-Ok-clause-read c =
    ended_read sequences c.args.bytes.now c.read.new.source.left.now c.read.new.source.number c.in-Ok.cert
    c.ended.result
    (read_whole sequences c.args.bytes.now c.new-lines.result.left.now c.read.new.source.left.now
    c.new-lines.result.number c.read.new.source.number c.in-Ok.cert (c.in-Ok.ensures.read tt)
    c.new-lines.ensures.number c.new-lines.ensures.left)
    c.ended.ensures

pub returns-in-Ok-clause-none : goal.returns-in-Ok-clause-none
returns-in-Ok-clause-none c = λ f e v h t.
    no_text sequences c.args.bytes.now _ f v sequences_tell (returns-in-Ok-clause-read c) e h t
