use Rattle.std.proofs.Common.{◌-◌, ℕ, Bool, List, Option, length, refl, sym, subst, inr, arith}
use Rattle.line_rules.specs.declared.types.Load.{Load}
use Rattle.std.proofs.lemmas.Option.{slice_get_read}
use Rattle.line_instance.specs.Line.{IsTaskSet}
use Rattle.line_rules.specs.Balance.{all_tasks}
use Rattle.line_rules.proofs.FreeSets.{all_of}
use Rattle.lemma_core.proofs.HistoryGrows.{keeps_both}
use Rattle.station_search.proofs.States.{rest_tasks}
use Rattle.round_helpers.specs.inner.Works.{IsEnd, IsSettled}
use Rattle.round_helpers.specs.declared.question_work.End.{End}
use Rattle.round_helpers.specs.declared.question_work.End.TheVariants as ends
use Rattle.round_helpers.proofs.JobEnds.{job_is}
use Rattle.round_helpers.proofs.WorkFacts.{works_paid, works_on, works_offered, end_on}
use Rattle.round_helpers.proofs.piece_work.do_piece.Goals as goal

pub settle-requires-clause-set : goal.settle-requires-clause-set
settle-requires-clause-set g c =
    let j = job_is c.args.question.kind c.args.inst.now c.args.question.cycle c.args.question.most c.args.jobs.now
    c.args.piece.now.number c.index-jobs-k.result c.requires.jobs
    (slice_get_read c.args.jobs.now (length c.args.jobs.now) c.args.piece.now.number c.index-jobs-k.result refl
    (omega (arith, c.if-k-jobs.false)) c.index-jobs-k.is) in
    let P : List Bool → Type 0 = λ z. IsTaskSet c.args.inst.now z in
    subst P (sym j.set)
    (rest_tasks c.args.inst.now (all_tasks c.args.inst.now) c.index-jobs-k.result.load (all_of c.args.inst.now))

pub offer_job-requires-clause-job : goal.offer_job-requires-clause-job
offer_job-requires-clause-job g c =
    job_is c.args.question.kind c.args.inst.now c.args.question.cycle c.args.question.most c.args.jobs.now
    c.args.piece.now.number c.index-jobs-k.result c.requires.jobs
    (slice_get_read c.args.jobs.now (length c.args.jobs.now) c.args.piece.now.number c.index-jobs-k.result refl
    (omega (arith, c.if-k-jobs.false)) c.index-jobs-k.is)

pub returns-in-Ok-clause-keeps : goal.returns-in-Ok-clause-keeps
returns-in-Ok-clause-keeps g c =
    let a = g.D.Desk.desk c.args.desk.now in
    let s = g.D.Desk.desk c.settle.new.desk in
    let o = g.D.Desk.desk c.offer_job.new.desk in
    keeps_both a o (g.D.Desk.desk c.answered.new.desk)
    (keeps_both a s o c.settle.ensures.keeps c.offer_job.ensures.keeps) c.answered.ensures.waits.keeps

pub returns-in-Ok-clause-works : goal.returns-in-Ok-clause-works
returns-in-Ok-clause-works g c =
    let a = g.D.Desk.desk c.args.desk.now in
    let s = g.D.Desk.desk c.settle.new.desk in
    let u : ℕ = c.args.units.now.used in
    let p : ℕ = c.pay.new.units.used in
    let w : ℕ = c.settle.new.units.used in
    let paid = works_paid c.args.inst.now c.args.question.cycle a s (w - p) (w - u)
    (omega (arith, c.if-not-pay.ensures.paid refl, c.settle.ensures.spent)) c.settle.ensures.works in
    let o = g.D.Desk.desk c.offer_job.new.desk in
    works_on c.args.inst.now c.args.question.cycle a o (g.D.Desk.desk c.answered.new.desk) (w - u) (w - u)
    (keeps_both a s o c.settle.ensures.keeps c.offer_job.ensures.keeps) c.answered.ensures.waits
    (works_offered c.args.inst.now c.args.question.cycle a s o (w - u) c.settle.ensures.keeps
    c.offer_job.ensures.keeps paid c.offer_job.ensures.works)

pub returns-in-Ok-clause-ends : goal.returns-in-Ok-clause-ends
returns-in-Ok-clause-ends g c =
    let o = g.D.Desk.desk c.offer_job.new.desk in
    let n = g.D.Desk.desk c.answered.new.desk in
    let q = c.args.question in
    let S : Option (List Load) → Type 0 =
    λ z. IsSettled (g.D.Desk.desk c.settle.new.desk) c.args.inst.now q c.index-jobs-k.result.set (q.most - 1) z in
    let E : End → Type 0 = λ z. IsEnd n c.args.inst.now q c.settle.new.units.left z in
    subst E (sym c.answered.ensures.end)
    (end_on o n c.args.inst.now q c.settle.new.units.left ends.Answered c.answered.ensures.waits.keeps
    (inr (omega (
      arith,
      c.in-Ok.ensures.found,
      (subst S c.in-Ok-Some.field-0-is c.in-Ok-Some.ensures.settled).0,
      c.requires.some,
    ))))

pub returns-in-Err-offer_job-clause-keeps : goal.returns-in-Err-offer_job-clause-keeps
returns-in-Err-offer_job-clause-keeps g c =
    keeps_both (g.D.Desk.desk c.args.desk.now) (g.D.Desk.desk c.settle.new.desk) (g.D.Desk.desk c.offer_job.new.desk)
    c.settle.ensures.keeps c.offer_job.ensures.keeps

pub returns-in-Err-offer_job-clause-works : goal.returns-in-Err-offer_job-clause-works
returns-in-Err-offer_job-clause-works g c =
    let a = g.D.Desk.desk c.args.desk.now in
    let s = g.D.Desk.desk c.settle.new.desk in
    let u : ℕ = c.args.units.now.used in
    let p : ℕ = c.pay.new.units.used in
    let w : ℕ = c.settle.new.units.used in
    let paid = works_paid c.args.inst.now c.args.question.cycle a s (w - p) (w - u)
    (omega (arith, c.if-not-pay.ensures.paid refl, c.settle.ensures.spent)) c.settle.ensures.works in
    works_offered c.args.inst.now c.args.question.cycle a s (g.D.Desk.desk c.offer_job.new.desk) (w - u)
    c.settle.ensures.keeps c.offer_job.ensures.keeps paid c.offer_job.ensures.works
