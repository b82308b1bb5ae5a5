use Rattle.line_rules.proofs.Between.{met_tasks}
use Rattle.beam_search.proofs.beams.Levels.may_fit.Goals as goal

pub exceeds-requires-clause-set : goal.exceeds-requires-clause-set
exceeds-requires-clause-set c =
    met_tasks c.args.inst.now c.all.result c.tasks_at.result c.meet-tasks.result c.all.ensures.set
    c.meet-tasks.ensures.value c.meet-tasks.ensures.truths

pub find-requires-clause-set : goal.find-requires-clause-set
find-requires-clause-set c =
    met_tasks c.args.inst.now c.all.result c.tasks_at.result c.meet-tasks.result c.all.ensures.set
    c.meet-tasks.ensures.value c.meet-tasks.ensures.truths
