use Rattle.std.proofs.Common.{◌∙◌, ◌-◌, length, [], arith}
use Rattle.cert_text.proofs.ListAnswers.{list_answer, list_fault, no_list}
use Rattle.cert_text.proofs.whole_text.read_list.Goals as goal
use Rattle.line_io.proofs.ReadFacts.{to_end}

pub returns-in-Err-Fault-clause-read : goal.returns-in-Err-Fault-clause-read
returns-in-Err-Fault-clause-read c =
    list_fault c.args.bytes.now c.behind-lines.result.left.now [] c.args.from c.args.line c.args.tasks
    c.args.pairs c.behind-lines.result.number 0 c.in-Err-Fault.field-0 c.in-Err-Fault.fault _
    (c.in-Err-Fault.ensures.read tt)
    c.in-Err-Fault.field-0-is
    c.behind-lines.ensures.number (c.behind-lines.ensures.left
    ∙ to_end c.args.bytes.now c.args.from (length c.args.bytes.now - c.args.from) (omega arith))
    c.in-Err-Fault.fault-is

pub returns-in-Err-Fault-clause-none : goal.returns-in-Err-Fault-clause-none
returns-in-Err-Fault-clause-none c = λ f e es t rest h k m x.
    no_list c.args.bytes.now c.args.from c.args.line c.args.tasks c.args.pairs _ f es t rest c.requires.few
    (list_fault c.args.bytes.now c.behind-lines.result.left.now [] c.args.from c.args.line c.args.tasks
    c.args.pairs c.behind-lines.result.number 0 c.in-Err-Fault.field-0 c.in-Err-Fault.fault _
    (c.in-Err-Fault.ensures.read tt)
    c.in-Err-Fault.field-0-is
    c.behind-lines.ensures.number (c.behind-lines.ensures.left
    ∙ to_end c.args.bytes.now c.args.from (length c.args.bytes.now - c.args.from) (omega arith))
    c.in-Err-Fault.fault-is)
    e h k m x

pub returns-in-Ok-clause-read : goal.returns-in-Ok-clause-read
returns-in-Ok-clause-read c =
    list_answer c.args.bytes.now c.behind-lines.result.left.now c.read_entries.new.source.left.now c.args.from
    c.args.line c.args.tasks c.args.pairs c.behind-lines.result.number c.read_entries.new.source.number c.in-Ok.list
    c.listed.result
    c.requires.within c.requires.first (c.in-Ok.ensures.read tt) c.behind-lines.ensures.number
    (c.behind-lines.ensures.left ∙ to_end c.args.bytes.now c.args.from (length c.args.bytes.now - c.args.from)
    (omega arith)) c.listed.ensures

pub returns-in-Ok-clause-none : goal.returns-in-Ok-clause-none
returns-in-Ok-clause-none c = λ f e es t rest h k m x.
    no_list c.args.bytes.now c.args.from c.args.line c.args.tasks c.args.pairs c.listed.result f es t rest
    c.requires.few
    (list_answer c.args.bytes.now c.behind-lines.result.left.now c.read_entries.new.source.left.now c.args.from
    c.args.line c.args.tasks c.args.pairs c.behind-lines.result.number c.read_entries.new.source.number c.in-Ok.list
    c.listed.result
    c.requires.within c.requires.first (c.in-Ok.ensures.read tt) c.behind-lines.ensures.number
    (c.behind-lines.ensures.left ∙ to_end c.args.bytes.now c.args.from (length c.args.bytes.now - c.args.from)
    (omega arith)) c.listed.ensures)
    e h k m x
