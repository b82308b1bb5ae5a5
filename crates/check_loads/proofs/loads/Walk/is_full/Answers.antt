use Rattle.std.proofs.Common.{refl}
use Rattle.line_rules.specs.declared.types.Side.TheVariants.{Front, Back}
use Rattle.line_rules.proofs.JoinTests.{is_full, not_full}
use Rattle.check_loads.proofs.loads.Walk.is_full.Goals as goal

pub returns-then-grows : goal.returns-then-grows
returns-then-grows c = not_full c.tasks-tasks.ensures.line c.requires.set (c.requires.walk.load c.requires.given) Front
    (c.if-grows.ensures.some refl)

pub returns-then-grows-2 : goal.returns-then-grows-2
returns-then-grows-2 c = not_full c.tasks-tasks.ensures.line c.requires.set (c.requires.walk.load c.requires.given) Back
    (c.if-grows-2.ensures.some refl)

pub returns : goal.returns
returns c = is_full c.tasks-tasks.ensures.line c.requires.set (c.requires.walk.load c.requires.given)
    (c.if-grows.ensures.none refl) (c.if-grows-2.ensures.none refl)
