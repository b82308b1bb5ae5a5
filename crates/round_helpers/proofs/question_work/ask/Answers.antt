use Rattle.std.proofs.Common.{◌≡◌, ◌+◌, ◌-◌, ℕ, subst, arith}
use Rattle.station_search.specs.Beside.{most_added}
use Rattle.round_helpers.specs.inner.Works.{Works}
use Rattle.round_helpers.proofs.WorkFacts.{works_decided}
use Rattle.round_helpers.proofs.question_work.ask.Goals as goal

pub returns-clause-works : goal.returns-clause-works
returns-clause-works g c =
    let n : ℕ = c.decide_beside-decided.new.units.used - 0 in
    let m : ℕ = c.args.units.now.used + c.decide_beside-decided.new.units.used - c.args.units.now.used in
    let e : n ≡ m = omega arith in
    let W : ℕ → Type 0 =
    λ z. Works c.args.inst.now c.args.question.cycle (g.D.Desk.desk c.args.desk.now)
    (g.D.Desk.desk c.decide_beside-decided.new.desk) z (most_added z c.decide_beside-decided.result) in
    subst W e
    (works_decided c.args.question.kind c.args.inst.now c.args.question.cycle (g.D.Desk.desk c.args.desk.now)
    (g.D.Desk.desk c.decide_beside-decided.new.desk) n c.decide_beside-decided.ensures.own c.decide_beside-decided.result
    c.decide_beside-decided.ensures.few)
