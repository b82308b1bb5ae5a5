use Rattle.std.proofs.Common.{◌∙◌, sym, Some, None}
use Rattle.line_words.specs.Words.{texts}
use Rattle.line_words.proofs.Behind.{fault_is, first_at, none_up_to}
use Rattle.line_words.proofs.reading.first_fault.Goals as goal

pub returns-in-Some : goal.returns-in-Some
returns-in-Some c =
    let ws = c.args.words.now in
    let i = c.loop-i.i in
    first_at c.args.command ws i c.in-Some.kind c.loop-i-test.true c.loop-i.invariant
    (fault_is c.args.command ws i c.index-words-i.result c.as_str.result.now (Some c.in-Some.kind) c.loop-i-test.true
    c.index-words-i.is c.as_str.ensures.value
    (sym c.in-Some.is ∙ c.word_fault.ensures))

pub loop-i-preserved : goal.loop-i-preserved
loop-i-preserved c =
    let ws = c.args.words.now in
    let i = c.loop-i.i in
    none_up_to c.args.command (texts ws) i c.loop-i.invariant
    (fault_is c.args.command ws i c.index-words-i.result c.as_str.result.now None c.loop-i-test.true c.index-words-i.is
    c.as_str.ensures.value
    (sym c.in-None.is ∙ c.word_fault.ensures))
