use Rattle.std.proofs.Common.{◌≡◌, take, map}
use Rattle.entry_lists.specs.Lift.{lifted_frame}
use Rattle.cycle_search.proofs.joining.raise_frames.Given as goal

abbrev pub invariant-loop-frame : goal.invariant-loop-frame
invariant-loop-frame l = l.all ≡ map (lifted_frame l.earlier) (take l.frame-index l.frame-items)
