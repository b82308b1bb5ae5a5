use Rattle.std.proofs.Common.{◌+◌, ◌-◌, [], sym, arith}
use Rattle.line_seek.proofs.PaidFacts.{gains_few}
use Rattle.line_seek.proofs.trying.try_search.Goals as goal

pub returns-in-Refuted-clause-gains : goal.returns-in-Refuted-clause-gains
returns-in-Refuted-clause-gains c =
    let n = c.decide_in-decided.new.units.used in
    gains_few c.args.scratch.now c.decide_in-decided.new.desk c.len-before.ensures.kept c.len-after.ensures.kept
    c.decide_in-decided.ensures.keeps c.kind-kind.result c.args.inst.now c.cycle-cycle.result (sym c.requires.same)
    c.cycle-cycle.ensures c.decide_in-decided.ensures.own [] (n - 0) (n - 0 + 1) n (n + 1) (omega arith) (omega arith)
    c.in-Refuted.ensures.few

pub returns-in-Found-clause-gains : goal.returns-in-Found-clause-gains
returns-in-Found-clause-gains c =
    let n = c.decide_in-decided.new.units.used in
    gains_few c.args.scratch.now c.decide_in-decided.new.desk c.len-before.ensures.kept c.len-after.ensures.kept
    c.decide_in-decided.ensures.keeps c.kind-kind.result c.args.inst.now c.cycle-cycle.result (sym c.requires.same)
    c.cycle-cycle.ensures c.decide_in-decided.ensures.own [] (n - 0) (n - 0) n (n + 0) (omega arith) (omega arith)
    c.in-Found.ensures.few

pub returns-in-Spent-clause-gains : goal.returns-in-Spent-clause-gains
returns-in-Spent-clause-gains c =
    let n = c.decide_in-decided.new.units.used in
    gains_few c.args.scratch.now c.decide_in-decided.new.desk c.len-before.ensures.kept c.len-after.ensures.kept
    c.decide_in-decided.ensures.keeps c.kind-kind.result c.args.inst.now c.cycle-cycle.result (sym c.requires.same)
    c.cycle-cycle.ensures c.decide_in-decided.ensures.own c.in-Spent.field-0 (n - 0) (n - 0) n (n + 0) (omega arith)
    (omega arith)
    c.in-Spent.ensures.few
