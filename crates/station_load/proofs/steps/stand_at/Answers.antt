use Rattle.station_load.proofs.Walks.{stands_at, stand_sets}
use Rattle.station_load.proofs.steps.stand_at.Goals as goal

pub returns-clause-walk : goal.returns-clause-walk
returns-clause-walk c =
    stands_at c.args.inst.now c.args.cycle c.args.mode c.args.set.now c.requires.set c.args.given c.args.load.now
    c.args.sum c.start.result c.start-2.result c.requires.load c.requires.nothing c.requires.sum
    c.start.ensures.tasks c.start-2.ensures.tasks c.start.ensures.kept c.start-2.ensures.kept

pub start-requires-clause-part : goal.start-requires-clause-part
start-requires-clause-part c = (stand_sets c.args.inst.now c.args.cycle c.args.mode c.args.set.now c.args.given
    c.args.load.now c.requires.load c.requires.nothing).front

pub start-requires-2-clause-part : goal.start-requires-2-clause-part
start-requires-2-clause-part c = (stand_sets c.args.inst.now c.args.cycle c.args.mode c.args.set.now c.args.given
    c.args.load.now c.requires.load c.requires.nothing).back
