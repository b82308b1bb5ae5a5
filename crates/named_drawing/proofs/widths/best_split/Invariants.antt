use Rattle.std.proofs.Common.{◌≡◌, ◌≤◌, ◌+◌, take, drop}
use Rattle.named_drawing.specs.Widths.{best_below, width}
use Rattle.named_drawing.specs.inner.Splits.{measured}
use Rattle.named_drawing.proofs.widths.best_split.Given as goal

abbrev pub invariant-loop-at : goal.invariant-loop-at
invariant-loop-at l = record {
  best : l.best ≡ measured l.text (best_below l.text l.at);
  left : l.left ≡ width (take l.at l.text);
  right : l.right ≡ width (drop l.at l.text);
  limit : l.left + l.right ≤ 768;
}
