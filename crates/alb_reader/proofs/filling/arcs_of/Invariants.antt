use Rattle.std.proofs.Common.{◌≡◌, map, take}
use Rattle.in2_reader.specs.Contents.{Lines}
use Rattle.alb_reader.specs.Faults.{AreRight, arc_fault}
use Rattle.alb_reader.specs.Instance.{arcs_of}
use Rattle.alb_reader.specs.inner.Drafts.{pair_line}
use Rattle.alb_reader.proofs.filling.arcs_of.Given as goal

abbrev pub invariant-loop-k : goal.invariant-loop-k
invariant-loop-k l = (under : Lines) → l.lines ≡ map pair_line under
    → AreRight (arc_fault l.tasks) (take l.k under) × (l.arcs.items ≡ arcs_of (take l.k under))
