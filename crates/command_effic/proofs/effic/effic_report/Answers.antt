use Rattle.std.proofs.Common.{option_map, inl, inr, arith, List, ℕ, Option}
use Rattle.command_outcome.specs.Found.{IsCutShort, IsFiled}
use Rattle.command_outcome.specs.Outcome.{Files, Outside, outside}
use Rattle.command_outcome.specs.declared.report.Report.{Report}
use Rattle.command_outcome.proofs.FoundFacts.{reported, handed_status, filed, may_end_as}
use Rattle.command_outcome.proofs.OutcomeFacts.{early, handed_on}
use Rattle.input_files.specs.Instance.{IsNoPlainLine}
use Rattle.command_effic.specs.EfficFound.{least_product, IsEfficOutcome, IsEfficPromised}
use Rattle.command_effic.proofs.FoundFacts.{sayable, answered, promised}
use Rattle.command_effic.proofs.effic.effic_report.Goals as goal

pub returns-in_err-plain-clause-ends : goal.returns-in_err-plain-clause-ends
returns-in_err-plain-clause-ends g c = λ t.
    let a = c.args in
    let name : Option (List ℕ) = option_map (λ x. x.now) a.name in
    let after : Files = g.S.Shelf.file c.plain_line.new.shelf in
    let o : Outside = outside (g.S.Shelf.file a.shelf.now) (g.S.Shelf.blames c.plain_line.new.shelf) in
    early o (IsEfficOutcome o a.file.now a.kind a.least_m a.most_m a.plan.now name) (IsNoPlainLine o a.file.now) after
    c.in_err-plain.field-0.0 c.from_residual.result (λ out x. inr x) (c.in_err-plain.ensures.files t)
    (c.in_err-plain.ensures.said t) c.from_residual.ensures.1

pub returns-in_err-report-clause-ends : goal.returns-in_err-report-clause-ends
returns-in_err-report-clause-ends g c = λ t.
    let a = c.args in
    let p = c.in_ok-plain in
    let plan = a.plan.now in
    let name : Option (List ℕ) = option_map (λ x. x.now) a.name in
    let files : Files = g.S.Shelf.file a.shelf.now in
    let after : Files = g.S.Shelf.file c.plain_line.new.shelf in
    let o : Outside = outside files (g.S.Shelf.blames c.plain_line.new.shelf) in
    early o (IsEfficOutcome o a.file.now a.kind a.least_m a.most_m plan name)
    (IsCutShort (least_product p.plain.naming a.kind p.plain.inst a.least_m a.most_m plan)) after
    c.in_err-report.field-0.0 c.from_residual-in_err-report.result
    (λ out x. inl (answered p.plain.naming a.kind p.plain.inst a.least_m a.most_m plan files a.file.now name
    (p.ensures.said t) (p.ensures.naming t) out (inr x)))
    (p.ensures.files t) c.in_err-report.ensures.answer c.from_residual-in_err-report.ensures.1

pub write_certificate-requires : goal.write_certificate-requires
write_certificate-requires g c =
    let a = c.args in
    let p = c.in_ok-plain.plain in
    let r = c.in_ok-report.report in
    record {
      sayable = sayable p.naming a.kind p.inst a.least_m a.most_m a.plan.now r.status r.text.items r.kept
          c.in_ok-report.ensures.answer;
    }

pub returns-clause-ends : goal.returns-clause-ends
returns-clause-ends g c = λ t.
    let a = c.args in
    let p = c.in_ok-plain in
    let plan = a.plan.now in
    let name : Option (List ℕ) = option_map (λ x. x.now) a.name in
    let files : Files = g.S.Shelf.file a.shelf.now in
    let after : Files = g.S.Shelf.file c.write_certificate.new.shelf in
    let o : Outside = outside files (g.S.Shelf.blames c.write_certificate.new.shelf) in
    let found = c.in_ok-report.ensures.answer in
    reported (least_product p.plain.naming a.kind p.plain.inst a.least_m a.most_m plan) name c.in_ok-report.report found
    after c.write_certificate.result o (IsEfficOutcome o a.file.now a.kind a.least_m a.most_m plan name)
    (λ out x. inl (answered p.plain.naming a.kind p.plain.inst a.least_m a.most_m plan files a.file.now name
    (p.ensures.said t) (p.ensures.naming t) out (inl x)))
    (c.write_certificate.ensures.ends t files (p.ensures.files t) found.certificate found.keeps)

pub returns-clause-good : goal.returns-clause-good
returns-clause-good g c =
    let a = c.args in
    let p = c.in_ok-plain.plain in
    handed_status (least_product p.naming a.kind p.inst a.least_m a.most_m a.plan.now)
    (option_map (λ x. x.now) a.name) c.in_ok-report.report c.in_ok-report.ensures.answer
    (g.S.Shelf.file c.write_certificate.new.shelf) c.write_certificate.result c.write_certificate.ensures.same

pub returns-clause-fault : goal.returns-clause-fault
returns-clause-fault g c =
    may_end_as _ _ _ _ c.write_certificate.result (λ h. omega (arith, h, c.in_ok-plain.ensures.count))
    (λ h. omega (arith, h, c.in_ok-plain.ensures.writes)) c.write_certificate.ensures.fault

pub returns-clause-promise : goal.returns-clause-promise
returns-clause-promise g c = λ t.
    let a = c.args in
    let p = c.in_ok-plain in
    let plan = a.plan.now in
    let name : Option (List ℕ) = option_map (λ x. x.now) a.name in
    let files : Files = g.S.Shelf.file a.shelf.now in
    let after : Files = g.S.Shelf.file c.write_certificate.new.shelf in
    let s = least_product p.plain.naming a.kind p.plain.inst a.least_m a.most_m plan in
    let r = c.in_ok-report.report in
    let same = c.write_certificate.ensures.same in
    handed_on (λ (x : Report). IsEfficPromised files after a.file.now a.kind a.least_m a.most_m plan name x.status
    x.text.items x.kept)
    (λ (x : Report). IsFiled s name after x.status x.text.items x.kept) r c.write_certificate.result
    (promised p.plain.naming a.kind p.plain.inst a.least_m a.most_m plan files a.file.now name (p.ensures.said t)
    (p.ensures.naming t) after r.status r.text.items r.kept)
    same (filed s name r c.in_ok-report.ensures.answer after c.write_certificate.result same
    (c.write_certificate.ensures.certificate t))
