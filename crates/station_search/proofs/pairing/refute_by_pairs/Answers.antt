use Rattle.std.proofs.Common.{List, ◌∙◌, sym, subst}
use Rattle.line_rules.specs.declared.types.OpenFrame.{OpenFrame}
use Rattle.station_search.specs.inner.Work.{Accounts}
use Rattle.station_search.proofs.Clauses.{answered_at_once, accounts_none}
use Rattle.station_search.proofs.pairing.refute_by_pairs.Goals as goal

pub returns-in-Ok-clause-ends : goal.returns-in-Ok-clause-ends
returns-in-Ok-clause-ends g c = λ asked used none.
    answered_at_once asked c.args.kind c.args.inst.now c.args.cycle (g.D.Desk.desk c.args.desk.now)
    (g.D.Desk.desk c.publish_pairs.new.desk) c.args.set.now used none
    (c.in-Ok.ensures.publishes asked c.args.set.now (λ i m. m))

pub returns-in-Err-clause-ends : goal.returns-in-Err-clause-ends
returns-in-Err-clause-ends g c = λ asked used none.
    let P : List OpenFrame → Type 0 = λ z. Accounts asked c.args.kind c.args.inst.now c.args.cycle
    (g.D.Desk.desk c.args.desk.now) (g.D.Desk.desk c.publish_pairs.new.desk) z used used in
    subst P (sym (c.from_vec.ensures ∙ c.new.ensures.items))
    (accounts_none asked c.args.kind c.args.inst.now c.args.cycle (g.D.Desk.desk c.args.desk.now)
    (g.D.Desk.desk c.publish_pairs.new.desk) used used c.in-Err.ensures.waits)
