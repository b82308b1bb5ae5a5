use Rattle.std.proofs.Common.{arith}
use Rattle.lemma_core.specs.declared.types.Offered.TheVariants as offered
use Rattle.round_helpers.proofs.OfferFacts.{right_for, works_offer, offer_fewest}
use Rattle.round_helpers.proofs.question_work.offer_loads.Goals as goal

pub balance_of-requires-clause-parts : goal.balance_of-requires-clause-parts
balance_of-requires-clause-parts g c =
    let s = c.requires.seated in record { each = s.each; within = s.within; once = s.once }

pub offer-requires-clause-right : goal.offer-requires-clause-right
offer-requires-clause-right g c =
    right_for (g.D.Desk.desk c.args.desk.now) c.args.inst.now c.args.question.kind c.args.question.cycle
    c.in_ok-balance.balance c.requires.desk
    (c.in_ok-balance.ensures.right c.args.question.cycle c.requires.seated)

pub returns-in-Better-clause-works : goal.returns-in-Better-clause-works
returns-in-Better-clause-works g c =
    works_offer c.args.inst.now c.args.question.cycle (g.D.Desk.desk c.args.desk.now) (g.D.Desk.desk c.offer.new.self)
    c.in_ok-balance.balance.stations offered.Better c.in-Better.ensures.offers

pub returns-in-Better-clause-found : goal.returns-in-Better-clause-found
returns-in-Better-clause-found g c =
    let f = offer_fewest (g.D.Desk.desk c.args.desk.now) (g.D.Desk.desk c.offer.new.self)
    c.in_ok-balance.balance.stations offered.Better c.in-Better.ensures.offers in
    omega (arith, f, c.in_ok-balance.ensures.stations, c.len-stations.ensures)

pub returns-in-NotBetter-clause-works : goal.returns-in-NotBetter-clause-works
returns-in-NotBetter-clause-works g c =
    works_offer c.args.inst.now c.args.question.cycle (g.D.Desk.desk c.args.desk.now) (g.D.Desk.desk c.offer.new.self)
    c.in_ok-balance.balance.stations offered.NotBetter c.in-NotBetter.ensures.offers
