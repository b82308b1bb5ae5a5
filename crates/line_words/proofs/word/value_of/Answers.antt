use Rattle.std.proofs.Common.{◌∙◌, sym, ap, drop, option_map, ◌+◌, string_bytes}
use Rattle.line_words.specs.Words.{value_by, value_of, setting, texts}
use Rattle.line_words.proofs.Splits.{text_at, value_hit, value_miss}
use Rattle.line_words.proofs.word.value_of.Goals as goal

pub returns-in-Some : goal.returns-in-Some
returns-in-Some c =
    let ws = c.args.words.now in
    let i = c.loop-i.i in
    let w = c.index-words-i.result in
    value_hit c.args.key.now (string_bytes w) (drop i (texts ws)) (drop (i + 1) (texts ws))
    (text_at ws i w c.loop-i-test.true c.index-words-i.is)
    (value_of (texts ws) c.args.key.now) c.loop-i.invariant c.in-Some.value.now
    (ap (λ t. value_by c.args.key.now (setting t)) (sym c.as_str.ensures.value) ∙ sym c.value_by.ensures
    ∙ ap (option_map (λ v. v.now)) c.in-Some.is)

pub loop-i-preserved : goal.loop-i-preserved
loop-i-preserved c =
    let ws = c.args.words.now in
    let i = c.loop-i.i in
    let w = c.index-words-i.result in
    value_miss c.args.key.now (string_bytes w) (drop i (texts ws)) (drop (i + 1) (texts ws))
    (text_at ws i w c.loop-i-test.true c.index-words-i.is)
    (value_of (texts ws) c.args.key.now) c.loop-i.invariant
    (ap (λ t. value_by c.args.key.now (setting t)) (sym c.as_str.ensures.value) ∙ sym c.value_by.ensures
    ∙ ap (option_map (λ v. v.now)) c.in-None.is)
