use Rattle.std.proofs.Common.{◌∙◌, sym, ap, drop, ◌+◌, string_bytes, length, arith}
use Rattle.line_words.specs.Words.{is_name, names_of, texts}
use Rattle.line_words.proofs.Splits.{text_at, one_counted, none_counted}
use Rattle.line_words.proofs.word.count_names.Goals as goal
use Rattle.line_words.proofs.word.count_names.Goals.{then-is_name, else-is_name}

pub loop-i-preserved : goal.loop-i-preserved
loop-i-preserved c =
    let ws = c.args.words.now in
    let i = c.loop-i.i in
    let w = c.index-words-i.result in
    let e = text_at ws i w c.loop-i-test.true c.index-words-i.is in
    let is = ap is_name (sym c.as_str.ensures.value) ∙ sym c.is_name.ensures in
    let inv = c.loop-i.invariant in
    elim c.if-is_name.branch [
      | then-is_name b ↦
          let n = one_counted (string_bytes w) (drop i (texts ws)) (drop (i + 1) (texts ws)) e c.loop-i.names
          (length (names_of (texts ws))) inv.0 (is ∙ b.if-is_name.true) in
          (omega (arith, n, b.names-is), omega (arith, inv.1, b.names-is))
      | else-is_name b ↦
          let n = none_counted (string_bytes w) (drop i (texts ws)) (drop (i + 1) (texts ws)) e c.loop-i.names
          (length (names_of (texts ws))) inv.0 (is ∙ b.if-is_name.false) in
          (omega (arith, n, b.names-is), omega (arith, inv.1, b.names-is))
    ]
