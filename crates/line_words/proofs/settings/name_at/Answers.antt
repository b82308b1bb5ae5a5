use Rattle.std.proofs.Common.{◌≡◌, ◌∙◌, sym, ap, subst, drop, ◌+◌, string_bytes, arith}
use Rattle.std.specs.Prelude.{IfOk}
use Rattle.line_words.specs.Words.{is_name, texts}
use Rattle.line_words.specs.Jobs.{name_at}
use Rattle.line_words.proofs.Splits.{text_at, name_found, name_passed, name_skipped}
use Rattle.line_words.proofs.settings.name_at.Goals as goal
use Rattle.line_words.proofs.settings.name_at.Goals.{then-is_name+else-left-eq0, else-is_name}

pub returns-then-left-eq0 : goal.returns-then-left-eq0
returns-then-left-eq0 c =
    let ws = c.args.words.now in
    let i = c.loop-i.i in
    let w = c.index-words-i.result in
    let e = text_at ws i w c.loop-i-test.true c.index-words-i.is in
    let is = ap is_name (sym c.as_str-word.ensures.value) ∙ sym c.is_name.ensures ∙ c.if-is_name.true in
    let found = name_found (string_bytes w) (drop i (texts ws)) (drop (i + 1) (texts ws)) e c.loop-i.left
    (name_at (texts ws) c.args.place) c.loop-i.invariant is c.if-left-eq0.true in
    subst (λ t. IfOk c.new.result (λ n. n ≡ t)) (c.as_str-word.ensures.value ∙ found) c.new.ensures

pub loop-i-preserved : goal.loop-i-preserved
loop-i-preserved c =
    let ws = c.args.words.now in
    let i = c.loop-i.i in
    let w = c.index-words-i.result in
    let e = text_at ws i w c.loop-i-test.true c.index-words-i.is in
    let is = ap is_name (sym c.as_str-word.ensures.value) ∙ sym c.is_name.ensures in
    let all = name_at (texts ws) c.args.place in
    elim c.if-is_name.branch [
      | then-is_name+else-left-eq0 b ↦
          name_passed (string_bytes w) (drop i (texts ws)) (drop (i + 1) (texts ws)) e c.loop-i.left all
          c.loop-i.invariant (is ∙ b.if-is_name.true) c.if-is_name.left
          (omega (arith, b.left-is, b.if-left-eq0.false))
      | else-is_name b ↦
          ap (name_at (drop (i + 1) (texts ws))) b.left-is
          ∙ name_skipped (string_bytes w) (drop i (texts ws)) (drop (i + 1) (texts ws)) e c.loop-i.left all
          c.loop-i.invariant (is ∙ b.if-is_name.false)
    ]
