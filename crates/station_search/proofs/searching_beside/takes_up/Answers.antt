use Rattle.station_search.proofs.WaitFacts.{waits_both}
use Rattle.station_search.proofs.searching_beside.takes_up.Goals as goal

pub returns-clause-waits : goal.returns-clause-waits
returns-clause-waits g c = waits_both (g.D.Desk.desk c.args.desk.now) (g.D.Desk.desk c.is_put_off.new.desk)
    (g.D.Desk.desk c.claim.new.self) c.is_put_off.ensures.waits c.claim.ensures.waits
