use Rattle.line_rules.proofs.Between.{met_tasks}
use Rattle.tests_search.proofs.pair_searches.same_answers.Goals as goal

pub find-requires-clause-set : goal.find-requires-clause-set
find-requires-clause-set c = met_tasks c.args.inst.now c.all.result c.set_of.result c.meet-set.result
    c.all.ensures.set c.meet-set.ensures.value c.meet-set.ensures.truths

pub find-requires-in-loop-digits-clause-set : goal.find-requires-in-loop-digits-clause-set
find-requires-in-loop-digits-clause-set c = met_tasks c.args.inst.now c.all.result c.set_of.result c.meet-set.result
    c.all.ensures.set c.meet-set.ensures.value c.meet-set.ensures.truths
