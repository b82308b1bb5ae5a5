use Rattle.std.proofs.Common.{◌≡◌, ◌*◌, ◌≤◌, take}
use Rattle.line_instance.specs.Truths.{truths_of, count}
use Rattle.line_instance.proofs.sets.TaskSet.count.Given as goal

abbrev pub invariant-loop-i : goal.invariant-loop-i
invariant-loop-i l = record {
  counted : l.members ≡ count (take (64 * l.i) (truths_of l.self-inside.words));
  small : l.members ≤ 64 * l.i;
}
