use Rattle.std.proofs.Common.{take}
use Rattle.warm_sequence.specs.inner.Keeping.{taking, IsWarmTo}
use Rattle.warm_sequence.proofs.warming.go_over.Given as goal

abbrev pub invariant-loop-k : goal.invariant-loop-k
invariant-loop-k l = IsWarmTo l.times l.interval l.reach l.charges l.room (take l.k l.old)
    (taking l.warming) l.warming.units
