use Rattle.std.proofs.Common.{refl}
use Rattle.line_rules.specs.declared.types.Side.TheVariants.{Front, Back}
use Rattle.line_rules.proofs.JoinTests.{is_full, not_full}
use Rattle.check_loads.proofs.full.is_full_load.Goals as goal

pub returns-then-may_grow : goal.returns-then-may_grow
returns-then-may_grow c = not_full c.tasks-tasks.ensures.line c.requires.set c.requires.load Front
    (c.if-may_grow.ensures.some refl)

pub returns-then-may_grow-2 : goal.returns-then-may_grow-2
returns-then-may_grow-2 c = not_full c.tasks-tasks.ensures.line c.requires.set c.requires.load Back
    (c.if-may_grow-2.ensures.some refl)

pub returns : goal.returns
returns c = is_full c.tasks-tasks.ensures.line c.requires.set c.requires.load (c.if-may_grow.ensures.none refl)
    (c.if-may_grow-2.ensures.none refl)
