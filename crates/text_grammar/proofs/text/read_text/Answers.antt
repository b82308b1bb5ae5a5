use Rattle.std.proofs.Common.{[]}
use Rattle.text_grammar.specs.Texts.{spelled}
use Rattle.text_grammar.proofs.TextFacts.{ended_read, no_text, read_whole, fault_whole}
use Rattle.text_grammar.proofs.text.read_text.Goals as goal

pub returns-in-Err-Fault-clause-read : goal.returns-in-Err-Fault-clause-read
returns-in-Err-Fault-clause-read g c =
    let text = spelled (g.P.Part.rows c.args.part.now) (g.P.Part.may_say c.args.part.now) in
    fault_whole text c.args.bytes.now c.new-lines.result.left.now [] c.new-lines.result.number
    0 c.in-Err-Fault.field-0 c.in-Err-Fault.fault _ (c.in-Err-Fault.ensures.read tt) c.in-Err-Fault.field-0-is
    c.new-lines.ensures.number c.new-lines.ensures.left c.in-Err-Fault.fault-is

pub returns-in-Err-Fault-clause-none : goal.returns-in-Err-Fault-clause-none
returns-in-Err-Fault-clause-none g c = λ f e v h t.
    let text = spelled (g.P.Part.rows c.args.part.now) (g.P.Part.may_say c.args.part.now) in
    no_text text c.args.bytes.now _ f v c.requires.tells (returns-in-Err-Fault-clause-read g c) e h t

pub returns-in-Ok-clause-read : goal.returns-in-Ok-clause-read
returns-in-Ok-clause-read g c =
    let text = spelled (g.P.Part.rows c.args.part.now) (g.P.Part.may_say c.args.part.now) in
    ended_read text c.args.bytes.now c.read.new.source.left.now c.read.new.source.number c.in-Ok.value
    c.ended.result
    (read_whole text c.args.bytes.now c.new-lines.result.left.now c.read.new.source.left.now
    c.new-lines.result.number c.read.new.source.number c.in-Ok.value (c.in-Ok.ensures.read tt)
    c.new-lines.ensures.number c.new-lines.ensures.left)
    c.ended.ensures

pub returns-in-Ok-clause-none : goal.returns-in-Ok-clause-none
returns-in-Ok-clause-none g c = λ f e v h t.
    let text = spelled (g.P.Part.rows c.args.part.now) (g.P.Part.may_say c.args.part.now) in
    no_text text c.args.bytes.now _ f v c.requires.tells (returns-in-Ok-clause-read g c) e h t
