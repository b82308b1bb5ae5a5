use Rattle.station_search.proofs.TaskPlaces.{in_front, in_back}
use Rattle.station_search.proofs.placing.has_task.Goals as goal

pub returns-then-has : goal.returns-then-has
returns-then-has c = in_front c.args.load.now c.args.task c.has.result c.has.ensures c.if-has.true

pub returns-else-has : goal.returns-else-has
returns-else-has c = in_back c.args.load.now c.args.task c.has.result c.has-else-has.result c.has.ensures c.if-has.false
    c.has-else-has.ensures
