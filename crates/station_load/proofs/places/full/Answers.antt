use Rattle.std.proofs.Common.{refl}
use Rattle.line_rules.specs.declared.types.Side.TheVariants.{Front, Back}
use Rattle.line_rules.proofs.JoinTests.{is_full, not_full}
use Rattle.station_load.proofs.places.full.Goals as goal

pub returns-then-grows : goal.returns-then-grows
returns-then-grows c = not_full c.tasks-tasks.ensures.line c.requires.set c.requires.load Front
    (c.if-grows.ensures.some refl)

pub returns-then-grows-2 : goal.returns-then-grows-2
returns-then-grows-2 c = not_full c.tasks-tasks.ensures.line c.requires.set c.requires.load Back
    (c.if-grows-2.ensures.some refl)

pub returns : goal.returns
returns c = is_full c.tasks-tasks.ensures.line c.requires.set c.requires.load (c.if-grows.ensures.none refl)
    (c.if-grows-2.ensures.none refl)
