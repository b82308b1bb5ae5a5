use Rattle.line_check.proofs.PartWalks.{none_told, some_told, end_load}
use Rattle.line_check.proofs.frames.walk_frame.Goals as goal

pub returns-in-None : goal.returns-in-None
returns-in-None c = none_told c.args.kind c.args.inst.now c.args.cycle c.args.frame.now c.args.deepest
    c.args.entries.now c.args.steps c.ended.result c.in-None.is c.ended.ensures

pub walk_to-requires-clause-end : goal.walk_to-requires-clause-end
walk_to-requires-clause-end c = end_load c.args.inst.now c.args.cycle c.args.frame.now.mode c.args.frame.now.set
    c.args.deepest c.args.frame.now.last c.in-Some.end c.in-Some.is c.requires.last

pub returns-in-Some : goal.returns-in-Some
returns-in-Some c = some_told c.args.kind c.args.inst.now c.args.cycle c.args.frame.now c.args.deepest
    c.args.entries.now c.args.steps c.walk_to.result c.in-Some.end c.in-Some.is c.walk_to.ensures
