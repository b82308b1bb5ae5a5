use Rattle.std.proofs.Common.{◌≡◌, ◌∙◌, ◌+◌, ◌<◌, ℕ, List, length, take, drop, get_or, ap, sym, arith, add-one, refl}
use Rattle.std.proofs.lemmas.List.Sums.{sum_by_more, sum_by-drop_more}
use Rattle.named_drawing.specs.Widths.{best_below, byte_width, wider_part, width}
use Rattle.named_drawing.specs.inner.Splits.{measured}
use Rattle.named_drawing.proofs.SplitFacts.{split_turn}
use Rattle.named_drawing.proofs.widths.best_split.Goals as goal

pub loop-at-preserved : goal.loop-at-preserved
loop-at-preserved c =
    let text : List ℕ = c.args.text.now in
    let k : ℕ = c.loop-at.at in
    let within : k < length text = omega (arith, c.loop-at-test.true) in
    let more : width (take (k + 1) text) ≡ width (take k text) + byte_width (get_or text k 0) =
    sum_by_more byte_width text k 0 within in
    let less : width (drop k text) ≡ byte_width (get_or text k 0) + width (drop (k + 1) text) =
    sum_by-drop_more byte_width text k 0 within in
    let wide : c.max-wider.result ≡ wider_part text k = omega (
      arith,
      c.max-wider.ensures,
      less,
      c.byte_width-own.ensures.width,
      c.loop-at.invariant.left,
      c.loop-at.invariant.right,
    ) in
    record {
      best =
          split_turn text k c.loop-at.best c.turned-best.result (get_or text k 0) c.max-wider.result refl wide
          c.loop-at.invariant.best c.turned-best.ensures
          ∙ ap (λ n. measured text (best_below text n)) (sym (add-one k));
      left = omega (arith, more, c.byte_width-own.ensures.width, c.loop-at.invariant.left);
      right = omega (arith, less, c.byte_width-own.ensures.width, c.loop-at.invariant.right);
      limit = omega (
        arith,
        less,
        c.byte_width-own.ensures.width,
        c.loop-at.invariant.left,
        c.loop-at.invariant.right,
        c.loop-at.invariant.limit,
      );
    }
