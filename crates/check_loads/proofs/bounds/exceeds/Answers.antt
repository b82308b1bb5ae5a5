use Rattle.line_rules.proofs.ChainFacts.{chained_member}
use Rattle.check_loads.proofs.bounds.exceeds.Goals as goal

pub exceeds_of-requires-clause-chained : goal.exceeds_of-requires-clause-chained
exceeds_of-requires-clause-chained c = λ j h. chained_member c.args.kind c.args.inst.now c.args.cycle c.args.set.now
    c.args.most j h
