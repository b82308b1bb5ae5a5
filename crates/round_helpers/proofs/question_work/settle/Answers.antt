use Rattle.std.proofs.Common.{◌+◌, ◌-◌, ℕ, refl, ◌∙◌, arith}
use Rattle.lemma_core.proofs.HistoryGrows.{keeps_none, keeps_both}
use Rattle.round_helpers.proofs.WorkFacts.{works_none, works_as, works_on, works_more, works_asked}
use Rattle.round_helpers.proofs.question_work.settle.Goals as goal

pub asking-init : goal.asking-init
asking-init g c =
    let n : ℕ = c.args.units.now.used - c.args.units.now.used in
    record {
      keeps = keeps_none (g.D.Desk.desk c.args.desk.now);
      pairs = refl;
      sum = refl;
      spent = omega arith;
      works = works_as c.args.inst.now c.args.question.cycle (g.D.Desk.desk c.args.desk.now)
          (g.D.Desk.desk c.args.desk.now) 0 n 0 n (omega arith) (omega arith)
          (works_none c.args.inst.now c.args.question.cycle (g.D.Desk.desk c.args.desk.now));
    }

pub returns-in-Refuted-clause-keeps : goal.returns-in-Refuted-clause-keeps
returns-in-Refuted-clause-keeps g c =
    keeps_both (g.D.Desk.desk c.args.desk.now) (g.D.Desk.desk c.asking.desk) (g.D.Desk.desk c.ask.new.desk)
    c.asking.invariant.keeps c.ask.ensures.keeps

pub returns-in-Refuted-clause-works : goal.returns-in-Refuted-clause-works
returns-in-Refuted-clause-works g c =
    works_asked c.args.inst.now c.args.question.cycle (g.D.Desk.desk c.args.desk.now) (g.D.Desk.desk c.asking.desk)
    (g.D.Desk.desk c.ask.new.desk) c.args.units.now.used c.asking.units.used c.ask.new.units.used c.ask.result
    c.asking.invariant.spent c.ask.ensures.spent c.asking.invariant.keeps c.ask.ensures.keeps
    c.asking.invariant.works c.ask.ensures.works

pub returns-in-Found-clause-keeps : goal.returns-in-Found-clause-keeps
returns-in-Found-clause-keeps g c =
    keeps_both (g.D.Desk.desk c.args.desk.now) (g.D.Desk.desk c.asking.desk) (g.D.Desk.desk c.ask.new.desk)
    c.asking.invariant.keeps c.ask.ensures.keeps

pub returns-in-Found-clause-works : goal.returns-in-Found-clause-works
returns-in-Found-clause-works g c =
    works_asked c.args.inst.now c.args.question.cycle (g.D.Desk.desk c.args.desk.now) (g.D.Desk.desk c.asking.desk)
    (g.D.Desk.desk c.ask.new.desk) c.args.units.now.used c.asking.units.used c.ask.new.units.used c.ask.result
    c.asking.invariant.spent c.ask.ensures.spent c.asking.invariant.keeps c.ask.ensures.keeps
    c.asking.invariant.works c.ask.ensures.works

pub returns-in-Spent-clause-keeps : goal.returns-in-Spent-clause-keeps
returns-in-Spent-clause-keeps g c =
    keeps_both (g.D.Desk.desk c.args.desk.now) (g.D.Desk.desk c.asking.desk) (g.D.Desk.desk c.ask.new.desk)
    c.asking.invariant.keeps c.ask.ensures.keeps

pub returns-in-Spent-clause-works : goal.returns-in-Spent-clause-works
returns-in-Spent-clause-works g c =
    works_asked c.args.inst.now c.args.question.cycle (g.D.Desk.desk c.args.desk.now) (g.D.Desk.desk c.asking.desk)
    (g.D.Desk.desk c.ask.new.desk) c.args.units.now.used c.asking.units.used c.ask.new.units.used c.ask.result
    c.asking.invariant.spent c.ask.ensures.spent c.asking.invariant.keeps c.ask.ensures.keeps
    c.asking.invariant.works c.ask.ensures.works

pub returns-in-NoMemory-clause-keeps : goal.returns-in-NoMemory-clause-keeps
returns-in-NoMemory-clause-keeps g c =
    keeps_both (g.D.Desk.desk c.args.desk.now) (g.D.Desk.desk c.asking.desk) (g.D.Desk.desk c.ask.new.desk)
    c.asking.invariant.keeps c.ask.ensures.keeps

pub returns-in-NoMemory-clause-works : goal.returns-in-NoMemory-clause-works
returns-in-NoMemory-clause-works g c =
    works_asked c.args.inst.now c.args.question.cycle (g.D.Desk.desk c.args.desk.now) (g.D.Desk.desk c.asking.desk)
    (g.D.Desk.desk c.ask.new.desk) c.args.units.now.used c.asking.units.used c.ask.new.units.used c.ask.result
    c.asking.invariant.spent c.ask.ensures.spent c.asking.invariant.keeps c.ask.ensures.keeps
    c.asking.invariant.works c.ask.ensures.works

pub returns-in-Some-test_end-clause-keeps : goal.returns-in-Some-test_end-clause-keeps
returns-in-Some-test_end-clause-keeps g c =
    let a = g.D.Desk.desk c.args.desk.now in
    let d = g.D.Desk.desk c.ask.new.desk in
    let both = keeps_both a (g.D.Desk.desk c.asking.desk) d c.asking.invariant.keeps c.ask.ensures.keeps in
    keeps_both a d (g.D.Desk.desk c.test_end.new.desk) both c.test_end.ensures.waits.keeps

pub returns-in-Some-test_end-clause-works : goal.returns-in-Some-test_end-clause-works
returns-in-Some-test_end-clause-works g c =
    let u : ℕ = c.args.units.now.used in
    let w : ℕ = c.ask.new.units.used in
    let both = keeps_both (g.D.Desk.desk c.args.desk.now) (g.D.Desk.desk c.asking.desk) (g.D.Desk.desk c.ask.new.desk)
    c.asking.invariant.keeps c.ask.ensures.keeps in
    works_on c.args.inst.now c.args.question.cycle (g.D.Desk.desk c.args.desk.now) (g.D.Desk.desk c.ask.new.desk)
    (g.D.Desk.desk c.test_end.new.desk) (w - u) (w - u + 1) both c.test_end.ensures.waits
    (works_asked c.args.inst.now c.args.question.cycle (g.D.Desk.desk c.args.desk.now) (g.D.Desk.desk c.asking.desk)
    (g.D.Desk.desk c.ask.new.desk) u c.asking.units.used w c.ask.result c.asking.invariant.spent c.ask.ensures.spent
    c.asking.invariant.keeps c.ask.ensures.keeps c.asking.invariant.works c.ask.ensures.works)

pub returns-in-Some-test_end-clause-ends : goal.returns-in-Some-test_end-clause-ends
returns-in-Some-test_end-clause-ends g c = c.in-Some-test_end.ensures.ends c.ask.new.units.left

pub asking-preserved : goal.asking-preserved
asking-preserved g c =
    let a = g.D.Desk.desk c.args.desk.now in
    let b = g.D.Desk.desk c.asking.desk in
    let d = g.D.Desk.desk c.ask.new.desk in
    let e = g.D.Desk.desk c.test_end.new.desk in
    let u : ℕ = c.args.units.now.used in
    let w : ℕ = c.ask.new.units.used in
    let both = keeps_both a b d c.asking.invariant.keeps c.ask.ensures.keeps in
    record {
      keeps = keeps_both a d e both c.test_end.ensures.waits.keeps;
      pairs = c.ask.ensures.pairs ∙ c.asking.invariant.pairs;
      sum = omega (arith, c.asking.invariant.sum, c.ask.ensures.units);
      spent = omega (arith, c.asking.invariant.spent, c.ask.ensures.spent);
      works = works_on c.args.inst.now c.args.question.cycle a d e (w - u) (w - u) both c.test_end.ensures.waits
          (works_more c.args.inst.now c.args.question.cycle a b d u c.asking.units.used w c.asking.invariant.spent
          c.ask.ensures.spent c.asking.invariant.keeps c.ask.ensures.keeps c.asking.invariant.works
          c.in-Ended.ensures.works);
    }
