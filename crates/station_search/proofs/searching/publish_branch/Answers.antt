use Rattle.std.proofs.Common.{ℕ, List, refl, sym, subst}
use Rattle.lemma_core.specs.Desks.{FollowsSeen}
use Rattle.line_rules.specs.declared.types.Mode.{Mode}
use Rattle.lemma_core.specs.History.{known}
use Rattle.station_search.specs.Costs.{HasLoads}
use Rattle.station_search.specs.inner.Work.{branch_of, with_cites}
use Rattle.station_search.proofs.Events.{known_answers, added_answers}
use Rattle.station_search.proofs.PaidSteps.{counts_has, does_few, few_known, one_added, one_known}
use Rattle.station_search.proofs.searching.publish_branch.Goals as goal

pub returns-in-Known-clause-answered : goal.returns-in-Known-clause-answered
returns-in-Known-clause-answered g c =
    known_answers (g.D.Desk.desk c.args.desk.now) (g.D.Desk.desk c.publish.new.self) c.in-Known.ensures.publishes.0
    (known c.in-Known.id c.args.frame.now.most) c.args.frame.now.set c.args.frame.now.most c.args.cycle c.in-Known.id
    c.in-Known.ensures.publishes.1 c.in-Known.ensures.publishes.2

pub returns-in-Added-clause-answered : goal.returns-in-Added-clause-answered
returns-in-Added-clause-answered g c =
    added_answers (g.D.Desk.desk c.args.desk.now) (g.D.Desk.desk c.publish.new.self) c.in-Added.ensures.publishes.0
    (branch_of c.args.cycle (with_cites c.args.frame.now
    c.replace-cites.result)) c.in-Added.id c.in-Added.ensures.publishes.1
    c.in-Added.ensures.publishes.3

pub returns-in-Known-clause-publishes : goal.returns-in-Known-clause-publishes
returns-in-Known-clause-publishes g c = λ asked kind line n mode counts un.
    let P : Mode → Type 0 = λ z. HasLoads line c.args.cycle z c.args.frame.now.set n in
    one_known asked kind line c.args.cycle (g.D.Desk.desk c.args.desk.now) (g.D.Desk.desk c.publish.new.self)
    c.in-Known.ensures.publishes.0 c.in-Known.id c.args.frame.now.most c.args.frame.now.set c.args.frame.now.most n
    c.in-Known.ensures.publishes.1 c.in-Known.ensures.publishes.2
    (subst P mode (counts_has line c.args.cycle c.args.frame.now.mode c.args.frame.now.set n counts)) un

pub returns-in-Added-clause-publishes : goal.returns-in-Added-clause-publishes
returns-in-Added-clause-publishes g c = λ asked kind line n mode counts un.
    one_added asked kind line c.args.cycle (g.D.Desk.desk c.args.desk.now) (g.D.Desk.desk c.publish.new.self)
    c.in-Added.ensures.publishes.0 c.in-Added.id (branch_of c.args.cycle (with_cites c.args.frame.now
    c.replace-cites.result)) c.args.frame.now.set n
    c.in-Added.ensures.publishes.1 refl mode counts (λ i m. m)

pub returns-in-Known-clause-pays : goal.returns-in-Known-clause-pays
returns-in-Known-clause-pays g c = λ asked kind line n mode counts.
    let P : Mode → Type 0 = λ z. HasLoads line c.args.cycle z c.args.frame.now.set n in
    few_known asked kind line c.args.cycle (g.D.Desk.desk c.args.desk.now) (g.D.Desk.desk c.publish.new.self)
    c.in-Known.ensures.publishes.0 c.in-Known.id c.args.frame.now.most c.args.frame.now.set c.args.frame.now.most n
    c.in-Known.ensures.publishes.1 c.in-Known.ensures.publishes.2
    (subst P mode (counts_has line c.args.cycle c.args.frame.now.mode c.args.frame.now.set n counts))

pub returns-in-Added-clause-pays : goal.returns-in-Added-clause-pays
returns-in-Added-clause-pays g c = λ asked kind line n mode counts.
    does_few asked kind line c.args.cycle (g.D.Desk.desk c.args.desk.now) (g.D.Desk.desk c.publish.new.self)
    c.args.frame.now.set 1 n (one_added asked kind line c.args.cycle (g.D.Desk.desk c.args.desk.now)
    (g.D.Desk.desk c.publish.new.self) c.in-Added.ensures.publishes.0 c.in-Added.id
    (branch_of c.args.cycle (with_cites c.args.frame.now
    c.replace-cites.result)) c.args.frame.now.set n c.in-Added.ensures.publishes.1 refl mode counts (λ i m. m))

pub publish-requires-clause-follows : goal.publish-requires-clause-follows
publish-requires-clause-follows g c =
    let P : List ℕ → Type 0 = λ z. FollowsSeen (g.D.Desk.desk c.args.desk.now)
    (branch_of c.args.cycle (with_cites c.args.frame.now z)) in
    subst P (sym c.replace-cites.ensures.value) c.requires.follows
