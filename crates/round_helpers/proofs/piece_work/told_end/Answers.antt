use Rattle.round_helpers.proofs.WorkFacts.{works_on, works_waits}
use Rattle.round_helpers.proofs.piece_work.told_end.Goals as goal

pub returns-clause-works : goal.returns-clause-works
returns-clause-works g c =
    works_on c.args.inst.now c.args.question.cycle (g.D.Desk.desk c.args.desk.now) (g.D.Desk.desk c.is_ended.new.self)
    (g.D.Desk.desk c.test_end.new.desk) 0 0 c.is_ended.ensures.waits.keeps c.test_end.ensures.waits
    (works_waits c.args.inst.now c.args.question.cycle (g.D.Desk.desk c.args.desk.now)
    (g.D.Desk.desk c.is_ended.new.self) c.is_ended.ensures.waits)
