use Rattle.std.proofs.Common.{◌≡◌, map, take, length}
use Rattle.in2_reader.specs.Contents.{Lines}
use Rattle.alb_reader.specs.Faults.{AreRight, task_fault}
use Rattle.alb_reader.specs.inner.Drafts.{time_line}
use Rattle.alb_reader.specs.inner.Fillings.{AreGiven}
use Rattle.alb_reader.proofs.filling.given_times.Given as goal

abbrev pub invariant-loop-k : goal.invariant-loop-k
invariant-loop-k l = record {
  many : length l.times.items ≡ l.tasks;
  each : (under : Lines) → l.lines ≡ map time_line under → AreRight (task_fault l.tasks) (take l.k under)
      × AreGiven l.tasks (take l.k under) l.times.items;
}
