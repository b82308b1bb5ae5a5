use Rattle.std.proofs.Common.{◌≡◌, ◌≤◌, ◌*◌, take}
use Rattle.named_drawing.specs.Widths.{width}
use Rattle.named_drawing.proofs.widths.width.Given as goal

abbrev pub invariant-loop-byte : goal.invariant-loop-byte
invariant-loop-byte l = record {
  sum : l.sum ≡ width (take l.byte-index l.text);
  limit : l.sum ≤ 12 * l.byte-index;
}
