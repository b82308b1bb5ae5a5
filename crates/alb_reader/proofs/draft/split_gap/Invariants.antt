use Rattle.std.proofs.Common.{◌≡◌, ◌<◌, ℕ, get_or, false}
use Rattle.in2_reader.specs.Pairs.{is_gap}
use Rattle.alb_reader.proofs.draft.split_gap.Given as goal

abbrev pub invariant-loop-i : goal.invariant-loop-i
invariant-loop-i l = (k : ℕ) → k < l.i → is_gap (get_or l.bytes k 0) ≡ false
