use Rattle.std.proofs.Common.{arith}
use Rattle.line_instance.specs.Line.{tasks}
use Rattle.line_instance.proofs.LowWords.{low_common}
use Rattle.line_instance.proofs.instance.Instance.count_common.Goals as goal

pub count_low-requires : goal.count_low-requires
count_low-requires c =
    low_common c.args.set.now c.args.other.now c.meet_low.result (tasks c.args.self.now) c.requires (omega arith)
    c.meet_low.ensures.value
