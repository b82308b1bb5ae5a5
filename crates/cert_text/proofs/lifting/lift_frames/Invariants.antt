use Rattle.std.proofs.Common.{◌≡◌, take, map}
use Rattle.entry_lists.specs.Lift.{lifted_frame}
use Rattle.cert_text.proofs.lifting.lift_frames.Given as goal

abbrev pub invariant-loop-frame : goal.invariant-loop-frame
invariant-loop-frame l = l.frames ≡ map (lifted_frame l.earlier) (take l.frame-index l.frame-items)
