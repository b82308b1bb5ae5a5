use Rattle.line_rules.proofs.Between.{met_tasks}
use Rattle.tests_search.proofs.pair_rules.is_right.Goals as goal

pub pairs_hold-requires-clause-set : goal.pairs_hold-requires-clause-set
pairs_hold-requires-clause-set c = met_tasks c.args.inst.now c.all.result c.set_of.result c.meet-set.result
    c.all.ensures.set c.meet-set.ensures.value c.meet-set.ensures.truths
