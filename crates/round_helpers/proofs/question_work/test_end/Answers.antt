use Rattle.station_search.proofs.WaitFacts.{waits_both}
use Rattle.round_helpers.proofs.WorkFacts.{told_few}
use Rattle.round_helpers.proofs.question_work.test_end.Goals as goal

pub returns-then-least-question-clause-waits : goal.returns-then-least-question-clause-waits
returns-then-least-question-clause-waits g c =
    waits_both (g.D.Desk.desk c.args.desk.now) (g.D.Desk.desk c.look.new.self) (g.D.Desk.desk c.least.new.self)
    c.look.ensures.waits c.least.ensures.tells.waits

pub returns-then-least-question-clause-ends : goal.returns-then-least-question-clause-ends
returns-then-least-question-clause-ends g c = λ left.
    told_few (g.D.Desk.desk c.args.desk.now) (g.D.Desk.desk c.look.new.self) (g.D.Desk.desk c.least.new.self)
    c.args.inst.now c.args.question c.least.result c.requires.desk c.look.ensures.waits.keeps c.least.ensures.tells
    c.if-least-question.true

pub returns-clause-waits : goal.returns-clause-waits
returns-clause-waits g c =
    let a = g.D.Desk.desk c.args.desk.now in
    let l = g.D.Desk.desk c.least.new.self in
    waits_both a l (g.D.Desk.desk c.stop_asking.new.self)
    (waits_both a (g.D.Desk.desk c.look.new.self) l c.look.ensures.waits c.least.ensures.tells.waits)
    c.stop_asking.ensures.waits
