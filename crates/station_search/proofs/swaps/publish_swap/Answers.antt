use Rattle.std.proofs.Common.{refl}
use Rattle.std.proofs.lemmas.Bool.{and_parts}
use Rattle.lemma_core.specs.History.{known}
use Rattle.lemma_core.proofs.HistoryGrows.{keeps_both}
use Rattle.station_search.specs.inner.Work.{swap_of}
use Rattle.station_search.proofs.Events.{known_answers, added_answers}
use Rattle.station_search.proofs.PaidSteps.{one_none, one_added, known_free}
use Rattle.station_search.proofs.Standins.{does_for_then, unanswered_through}
use Rattle.station_search.proofs.WaitFacts.{waits_both}
use Rattle.station_search.proofs.swaps.publish_swap.Goals as goal

pub returns-in_default-clause-publishes : goal.returns-in_default-clause-publishes
returns-in_default-clause-publishes g c = λ asked.
    one_none asked c.args.kind c.args.inst.now c.args.cycle (g.D.Desk.desk c.args.desk.now)
    (g.D.Desk.desk c.find_swap.new.desk) c.args.set.now 0 c.find_swap.ensures.waits

pub returns-in-Known-clause-publishes : goal.returns-in-Known-clause-publishes
returns-in-Known-clause-publishes g c = λ asked.
    does_for_then asked c.args.kind c.args.inst.now c.args.cycle (g.D.Desk.desk c.args.desk.now)
    (g.D.Desk.desk c.find_swap.new.desk) (g.D.Desk.desk c.publish.new.self) c.args.set.now 1 0
    c.find_swap.ensures.waits c.in-Known.ensures.publishes.1.keeps
    (known_free asked c.args.kind c.args.inst.now c.args.cycle (g.D.Desk.desk c.find_swap.new.desk)
    (g.D.Desk.desk c.publish.new.self) c.in-Known.ensures.publishes.0 c.in-Known.id c.args.most c.args.set.now
    c.args.set.now c.args.most c.in-Known.ensures.publishes.1 c.in-Known.ensures.publishes.2)

pub returns-in-Known-clause-answered : goal.returns-in-Known-clause-answered
returns-in-Known-clause-answered g c = known_answers (g.D.Desk.desk c.find_swap.new.desk)
    (g.D.Desk.desk c.publish.new.self) c.in-Known.ensures.publishes.0 (known c.in-Known.id c.args.most) c.args.set.now
    c.args.most c.args.cycle c.in-Known.id c.in-Known.ensures.publishes.1 c.in-Known.ensures.publishes.2

pub returns-in-Added-clause-publishes : goal.returns-in-Added-clause-publishes
returns-in-Added-clause-publishes g c = λ asked.
    does_for_then asked c.args.kind c.args.inst.now c.args.cycle (g.D.Desk.desk c.args.desk.now)
    (g.D.Desk.desk c.find_swap.new.desk) (g.D.Desk.desk c.publish.new.self) c.args.set.now 1 0
    c.find_swap.ensures.waits c.in-Added.ensures.publishes.1.keeps
    (one_added asked c.args.kind c.args.inst.now c.args.cycle (g.D.Desk.desk c.find_swap.new.desk)
    (g.D.Desk.desk c.publish.new.self) c.in-Added.ensures.publishes.0 c.in-Added.id
    (swap_of c.args.cycle c.args.set.now c.args.most c.in-Some.swap.cite c.in-Some.swap.out_task
    c.in-Some.swap.in_task) c.args.set.now 0 c.in-Added.ensures.publishes.1 refl tt refl (λ i m. m))

pub returns-in-Added-clause-answered : goal.returns-in-Added-clause-answered
returns-in-Added-clause-answered g c = added_answers (g.D.Desk.desk c.find_swap.new.desk)
    (g.D.Desk.desk c.publish.new.self) c.in-Added.ensures.publishes.0
    (swap_of c.args.cycle c.args.set.now c.args.most c.in-Some.swap.cite c.in-Some.swap.out_task c.in-Some.swap.in_task)
    c.in-Added.id c.in-Added.ensures.publishes.1 c.in-Added.ensures.publishes.3

pub returns-in-Known-clause-keeps : goal.returns-in-Known-clause-keeps
returns-in-Known-clause-keeps g c = keeps_both (g.D.Desk.desk c.args.desk.now) (g.D.Desk.desk c.find_swap.new.desk)
    (g.D.Desk.desk c.publish.new.self) c.find_swap.ensures.waits.keeps c.in-Known.ensures.publishes.1.keeps

pub returns-in-Added-clause-keeps : goal.returns-in-Added-clause-keeps
returns-in-Added-clause-keeps g c = keeps_both (g.D.Desk.desk c.args.desk.now) (g.D.Desk.desk c.find_swap.new.desk)
    (g.D.Desk.desk c.publish.new.self) c.find_swap.ensures.waits.keeps c.in-Added.ensures.publishes.1.keeps

pub returns-in_default-clause-keeps : goal.returns-in_default-clause-keeps
returns-in_default-clause-keeps g c = c.find_swap.ensures.waits.keeps

pub returns-in_default-clause-unanswered : goal.returns-in_default-clause-unanswered
returns-in_default-clause-unanswered g c = λ n t. unanswered_through (g.D.Desk.desk c.args.desk.now)
    (g.D.Desk.desk c.find_swap.new.desk) c.args.set.now c.args.most c.args.cycle c.find_swap.ensures.waits
    (λ a. c.requires.unanswered t) (and_parts g.L.Looker.exact (g.D.Desk.desk c.args.desk.now).alone t).1

pub returns-in-NoMemory-clause-keeps : goal.returns-in-NoMemory-clause-keeps
returns-in-NoMemory-clause-keeps g c = keeps_both (g.D.Desk.desk c.args.desk.now) (g.D.Desk.desk c.find_swap.new.desk)
    (g.D.Desk.desk c.publish.new.self) c.find_swap.ensures.waits.keeps c.in-NoMemory.ensures.publishes.keeps

pub returns-in-NoMemory-clause-fails : goal.returns-in-NoMemory-clause-fails
returns-in-NoMemory-clause-fails g c = waits_both (g.D.Desk.desk c.args.desk.now) (g.D.Desk.desk c.find_swap.new.desk)
    (g.D.Desk.desk c.publish.new.self) c.find_swap.ensures.waits c.in-NoMemory.ensures.publishes
