use Rattle.std.proofs.Common.{◌≡◌, length}
use Rattle.lower_bounds.proofs.SizeFacts.{Gathered}
use Rattle.lower_bounds.proofs.by_size.longer.Given as goal

abbrev pub invariant-loop-i : goal.invariant-loop-i
invariant-loop-i l = record {
  truths : length l.set ≡ 1024;
  gathered : Gathered l.inst l.fn.parts l.fn.limit l.set l.i;
}
