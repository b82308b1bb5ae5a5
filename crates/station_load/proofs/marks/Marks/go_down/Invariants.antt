use Rattle.std.proofs.Common.{◌≡◌, ℕ, ◌<◌, ◌≤◌, ◌*◌, ◌/◌}
use Rattle.line_instance.specs.Truths.{In}
use Rattle.station_load.proofs.marks.Marks.go_down.Given as goal

-- what is left is in the words below
abbrev pub invariant-loop-at : goal.invariant-loop-at
invariant-loop-at l = record {
  within : l.at ≤ l.fn.left.base / 64;
  same : l.left.below ≡ l.fn.left.below;
  none : (p : ℕ) → In l.fn.self p → p < l.fn.left.below → p < 64 * l.at;
}
