use Rattle.line_check.proofs.RuledOut.{list_rejected}
use Rattle.line_check.proofs.checking.verify_list_found.Goals as goal

pub returns-clause-rejected : goal.returns-clause-rejected
returns-clause-rejected c = list_rejected c.args.kind c.args.inst.now c.args.entries.now c.args.trail.now c.args.steps
    c.judge_list.result c.judge_list.ensures
