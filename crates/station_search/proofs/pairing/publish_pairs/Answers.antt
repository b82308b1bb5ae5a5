use Rattle.std.proofs.Common.{refl}
use Rattle.lemma_core.specs.History.{known}
use Rattle.station_search.specs.inner.Work.{pairs_of}
use Rattle.station_search.proofs.Events.{known_answers, added_answers}
use Rattle.station_search.proofs.PaidSteps.{one_added, known_free}
use Rattle.station_search.proofs.pairing.publish_pairs.Goals as goal

pub returns-in-Known-clause-answered : goal.returns-in-Known-clause-answered
returns-in-Known-clause-answered g c = known_answers (g.D.Desk.desk c.args.desk.now) (g.D.Desk.desk c.publish.new.self)
    c.in-Known.ensures.publishes.0 (known c.in-Known.id c.args.most) c.args.set.now c.args.most c.args.cycle
    c.in-Known.id c.in-Known.ensures.publishes.1 c.in-Known.ensures.publishes.2

pub returns-in-Known-clause-publishes : goal.returns-in-Known-clause-publishes
returns-in-Known-clause-publishes g c = λ asked whole part.
    known_free asked c.args.kind c.args.inst.now c.args.cycle (g.D.Desk.desk c.args.desk.now)
    (g.D.Desk.desk c.publish.new.self) c.in-Known.ensures.publishes.0 c.in-Known.id c.args.most whole c.args.set.now
    c.args.most c.in-Known.ensures.publishes.1 c.in-Known.ensures.publishes.2

pub returns-in-Added-clause-answered : goal.returns-in-Added-clause-answered
returns-in-Added-clause-answered g c = added_answers (g.D.Desk.desk c.args.desk.now) (g.D.Desk.desk c.publish.new.self)
    c.in-Added.ensures.publishes.0 (pairs_of c.args.cycle c.args.set.now c.args.most c.in_ok-two.two) c.in-Added.id
    c.in-Added.ensures.publishes.1 c.in-Added.ensures.publishes.3

pub returns-in-Added-clause-publishes : goal.returns-in-Added-clause-publishes
returns-in-Added-clause-publishes g c = λ asked whole part.
    one_added asked c.args.kind c.args.inst.now c.args.cycle (g.D.Desk.desk c.args.desk.now)
    (g.D.Desk.desk c.publish.new.self) c.in-Added.ensures.publishes.0 c.in-Added.id
    (pairs_of c.args.cycle c.args.set.now c.args.most c.in_ok-two.two) whole 0 c.in-Added.ensures.publishes.1 refl tt
    refl part
