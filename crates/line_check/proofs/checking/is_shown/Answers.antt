use Rattle.line_check.proofs.RefusalFacts.{shown_where}
use Rattle.line_check.proofs.checking.is_shown.Goals as goal

pub returns : goal.returns
returns c = shown_where c.args.kind c.args.inst.now c.tasks-tasks.ensures.line c.args.ask c.args.upper
    c.args.balance.now c.balance_fault-fault.result c.balance_fault-fault.ensures.none
    c.balance_fault-fault.ensures.some c.is_none.result c.is_none.ensures
