use Rattle.std.proofs.Common.{inl}
use Rattle.line_rules.proofs.BoundCases.{not_exceeded}
use Rattle.lower_bounds.proofs.bounds.exceeds.Goals as goal

pub returns-then-is_empty : goal.returns-then-is_empty
returns-then-is_empty c = not_exceeded c.args.kind c.args.cycle c.args.most c.tasks-tasks.ensures.line
    c.tasks-tasks.ensures.ranked c.requires.set c.requires.some (inl (c.is_empty.ensures.0 c.if-is_empty.true))
