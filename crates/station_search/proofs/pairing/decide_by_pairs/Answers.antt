use Rattle.std.proofs.Common.{refl, None}
use Rattle.station_search.proofs.Clauses.{ends_own, ends_costs, ends_alone, ends_few}
use Rattle.line_rules.proofs.PairGrowth.{grow}
use Rattle.station_search.proofs.pairing.decide_by_pairs.Goals as goal

pub refute_by_pairs-refuted-requires-clause-refuted : goal.refute_by_pairs-refuted-requires-clause-refuted
refute_by_pairs-refuted-requires-clause-refuted g c =
    grow c.args.kind c.args.inst.now c.args.cycle c.in-Refuted.hull c.args.set.now c.args.most c.in-Refuted.two
    c.requires.set c.in-Refuted.ensures.within c.in-Refuted.ensures.refuted

pub returns-in-Refuted-clause-own : goal.returns-in-Refuted-clause-own
returns-in-Refuted-clause-own g c = λ mode. ends_own mode c.args.kind c.args.inst.now c.args.cycle
    (g.D.Desk.desk c.args.desk.now) (g.D.Desk.desk c.refute_by_pairs-refuted.new.desk) 0
    c.refute_by_pairs-refuted.result (c.refute_by_pairs-refuted.ensures.ends mode 0 refl)

pub returns-in-Refuted-clause-costs : goal.returns-in-Refuted-clause-costs
returns-in-Refuted-clause-costs g c = λ mode. ends_costs mode c.args.kind c.args.inst.now c.args.cycle
    (g.D.Desk.desk c.args.desk.now) (g.D.Desk.desk c.refute_by_pairs-refuted.new.desk) 0
    c.refute_by_pairs-refuted.result (c.refute_by_pairs-refuted.ensures.ends mode 0 refl)

pub returns-in-Refuted-clause-alone : goal.returns-in-Refuted-clause-alone
returns-in-Refuted-clause-alone g c = λ alone. ends_alone None c.args.kind c.args.inst.now c.args.cycle
    (g.D.Desk.desk c.args.desk.now) (g.D.Desk.desk c.refute_by_pairs-refuted.new.desk) 0 c.args.set.now c.args.most 0
    c.refute_by_pairs-refuted.result alone (c.refute_by_pairs-refuted.ensures.decides None 0)
    (c.refute_by_pairs-refuted.ensures.ends None 0 refl)

pub returns-in-Refuted-clause-few : goal.returns-in-Refuted-clause-few
returns-in-Refuted-clause-few g c = ends_few None c.args.kind c.args.inst.now c.args.cycle
    (g.D.Desk.desk c.args.desk.now) (g.D.Desk.desk c.refute_by_pairs-refuted.new.desk) 0
    c.refute_by_pairs-refuted.result (c.refute_by_pairs-refuted.ensures.ends None 0 refl)

pub returns-in-Refuted-clause-refuted : goal.returns-in-Refuted-clause-refuted
returns-in-Refuted-clause-refuted g c = (
  c.in-Refuted.two,
  grow c.args.kind c.args.inst.now c.args.cycle c.in-Refuted.hull c.args.set.now c.args.most c.in-Refuted.two
      c.requires.set c.in-Refuted.ensures.within c.in-Refuted.ensures.refuted,
)
