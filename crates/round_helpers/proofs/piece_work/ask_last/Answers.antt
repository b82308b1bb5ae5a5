use Rattle.std.proofs.Common.{◌-◌, ◌≤◌, ℕ, Bool, List, Option, refl, sym, subst, inl, inr, arith}
use Rattle.line_rules.specs.declared.types.Load.{Load}
use Rattle.line_rules.specs.Bounds.{bound}
use Rattle.line_rules.specs.Entries.{HasAnswer}
use Rattle.lemma_core.specs.Desks.{entries}
use Rattle.lemma_core.proofs.HistoryGrows.{keeps_both}
use Rattle.round_helpers.specs.inner.Works.{IsEnd, IsSettled}
use Rattle.round_helpers.specs.declared.question_work.End.{End}
use Rattle.round_helpers.specs.declared.question_work.End.TheVariants as ends
use Rattle.round_helpers.proofs.WorkFacts.{works_paid, works_on, works_offered, end_on}
use Rattle.round_helpers.proofs.piece_work.ask_last.Goals as goal

pub returns-in-Ok-None-clause-keeps : goal.returns-in-Ok-None-clause-keeps
returns-in-Ok-None-clause-keeps g c =
    keeps_both (g.D.Desk.desk c.args.desk.now) (g.D.Desk.desk c.settle.new.desk) (g.D.Desk.desk c.answered.new.desk)
    c.settle.ensures.keeps c.answered.ensures.waits.keeps

pub returns-in-Ok-None-clause-works : goal.returns-in-Ok-None-clause-works
returns-in-Ok-None-clause-works g c =
    let a = g.D.Desk.desk c.args.desk.now in
    let s = g.D.Desk.desk c.settle.new.desk in
    let u : ℕ = c.args.units.now.used in
    let p : ℕ = c.pay.new.units.used in
    let w : ℕ = c.settle.new.units.used in
    let paid = works_paid c.args.inst.now c.args.question.cycle a s (w - p) (w - u)
    (omega (arith, c.if-not-pay.ensures.paid refl, c.settle.ensures.spent)) c.settle.ensures.works in
    works_on c.args.inst.now c.args.question.cycle a s (g.D.Desk.desk c.answered.new.desk) (w - u) (w - u)
    c.settle.ensures.keeps c.answered.ensures.waits paid

pub returns-in-Ok-None-clause-ends : goal.returns-in-Ok-None-clause-ends
returns-in-Ok-None-clause-ends g c =
    let s = g.D.Desk.desk c.settle.new.desk in
    let n = g.D.Desk.desk c.answered.new.desk in
    let q = c.args.question in
    let S : Option (List Load) → Type 0 = λ z. IsSettled s c.args.inst.now q c.all-all.result q.most z in
    let P : List Bool → Type 0 = λ z. HasAnswer (entries s) z q.most q.cycle in
    let B : List Bool → Type 0 = λ z. bound q.kind c.args.inst.now q.cycle z ≤ q.most in
    let E : End → Type 0 = λ z. IsEnd n c.args.inst.now q c.settle.new.units.left z in
    subst E (sym c.answered.ensures.end)
    (end_on s n c.args.inst.now q c.settle.new.units.left ends.Answered c.answered.ensures.waits.keeps
    (inl (subst P c.all-all.ensures.value
    (subst S c.in-Ok-None.field-0-is c.in-Ok-None.ensures.settled
    (subst B (sym c.all-all.ensures.value) c.requires.bounded)))))

pub returns-in-Ok-clause-keeps : goal.returns-in-Ok-clause-keeps
returns-in-Ok-clause-keeps g c =
    let a = g.D.Desk.desk c.args.desk.now in
    let s = g.D.Desk.desk c.settle.new.desk in
    let o = g.D.Desk.desk c.offer_loads.new.desk in
    keeps_both a o (g.D.Desk.desk c.answered-in-Ok.new.desk)
    (keeps_both a s o c.settle.ensures.keeps c.offer_loads.ensures.keeps) c.answered-in-Ok.ensures.waits.keeps

pub returns-in-Ok-clause-works : goal.returns-in-Ok-clause-works
returns-in-Ok-clause-works g c =
    let a = g.D.Desk.desk c.args.desk.now in
    let s = g.D.Desk.desk c.settle.new.desk in
    let u : ℕ = c.args.units.now.used in
    let p : ℕ = c.pay.new.units.used in
    let w : ℕ = c.settle.new.units.used in
    let paid = works_paid c.args.inst.now c.args.question.cycle a s (w - p) (w - u)
    (omega (arith, c.if-not-pay.ensures.paid refl, c.settle.ensures.spent)) c.settle.ensures.works in
    let o = g.D.Desk.desk c.offer_loads.new.desk in
    works_on c.args.inst.now c.args.question.cycle a o (g.D.Desk.desk c.answered-in-Ok.new.desk) (w - u) (w - u)
    (keeps_both a s o c.settle.ensures.keeps c.offer_loads.ensures.keeps) c.answered-in-Ok.ensures.waits
    (works_offered c.args.inst.now c.args.question.cycle a s o (w - u) c.settle.ensures.keeps
    c.offer_loads.ensures.keeps paid c.offer_loads.ensures.works)

pub returns-in-Ok-clause-ends : goal.returns-in-Ok-clause-ends
returns-in-Ok-clause-ends g c =
    let o = g.D.Desk.desk c.offer_loads.new.desk in
    let n = g.D.Desk.desk c.answered-in-Ok.new.desk in
    let q = c.args.question in
    let S : Option (List Load) → Type 0 =
    λ z. IsSettled (g.D.Desk.desk c.settle.new.desk) c.args.inst.now q c.all-all.result q.most z in
    let E : End → Type 0 = λ z. IsEnd n c.args.inst.now q c.settle.new.units.left z in
    subst E (sym c.answered-in-Ok.ensures.end)
    (end_on o n c.args.inst.now q c.settle.new.units.left ends.Answered c.answered-in-Ok.ensures.waits.keeps
    (inr (omega (arith, c.in-Ok.ensures.found, (subst S c.in-Ok-Some.field-0-is c.in-Ok-Some.ensures.settled).0))))

pub returns-clause-keeps : goal.returns-clause-keeps
returns-clause-keeps g c =
    keeps_both (g.D.Desk.desk c.args.desk.now) (g.D.Desk.desk c.settle.new.desk) (g.D.Desk.desk c.offer_loads.new.desk)
    c.settle.ensures.keeps c.offer_loads.ensures.keeps

pub returns-clause-works : goal.returns-clause-works
returns-clause-works g c =
    let a = g.D.Desk.desk c.args.desk.now in
    let s = g.D.Desk.desk c.settle.new.desk in
    let u : ℕ = c.args.units.now.used in
    let p : ℕ = c.pay.new.units.used in
    let w : ℕ = c.settle.new.units.used in
    let paid = works_paid c.args.inst.now c.args.question.cycle a s (w - p) (w - u)
    (omega (arith, c.if-not-pay.ensures.paid refl, c.settle.ensures.spent)) c.settle.ensures.works in
    works_offered c.args.inst.now c.args.question.cycle a s (g.D.Desk.desk c.offer_loads.new.desk) (w - u)
    c.settle.ensures.keeps c.offer_loads.ensures.keeps paid c.offer_loads.ensures.works
