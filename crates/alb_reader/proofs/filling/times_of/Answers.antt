use Rattle.alb_reader.proofs.StatedLines.{times_whole}
use Rattle.alb_reader.proofs.filling.times_of.Goals as goal

pub returns : goal.returns
returns c = λ under e. (let q = c.in_ok-given.ensures.given under e in
    times_whole c.args.tasks under c.in_ok-given.given.items c.deref.result.now c.args.end c.whole_times.result q.0 q.1
    c.deref.ensures.value c.whole_times.ensures)
