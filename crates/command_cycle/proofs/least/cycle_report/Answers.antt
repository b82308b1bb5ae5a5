use Rattle.std.proofs.Common.{◌≡◌, option_map, subst, inl, inr, arith, List, ℕ, Option}
use Rattle.std.proofs.lemmas.Result.{IfOk-weaker}
use Rattle.line_rules.specs.Ranges.{IsInRange}
use Rattle.line_rules.specs.declared.types.Certificate.{Certificate}
use Rattle.command_outcome.specs.Found.{Search, IsCutShort, IsFiled}
use Rattle.command_outcome.specs.Outcome.{Files, Outside, Outcome, outside}
use Rattle.command_outcome.specs.declared.report.Report.{Report}
use Rattle.command_outcome.proofs.FoundFacts.{filed, handed_status, may_end_as, reported}
use Rattle.command_outcome.proofs.OutcomeFacts.{early}
use Rattle.input_files.specs.Instance.{IsNoPlainLine, naming_of}
use Rattle.command_cycle.specs.Found.{IsCycleOutcome, IsCyclePromised, least_cycle}
use Rattle.command_cycle.proofs.least.cycle_report.Goals as goal

pub returns-in_err-plain-clause-ends : goal.returns-in_err-plain-clause-ends
returns-in_err-plain-clause-ends g c = λ t.
    let a = c.args in
    let after : Files = g.S.Shelf.file c.plain_line.new.shelf in
    let o : Outside = outside (g.S.Shelf.file a.shelf.now) (g.S.Shelf.blames c.plain_line.new.shelf) in
    let name : Option (List ℕ) = option_map (λ n. n.now) a.name in
    let P : Outcome → Type 0 = IsCycleOutcome o a.file.now a.kind a.stations a.plan.now name in
    early o P (IsNoPlainLine o a.file.now) after c.in_err-plain.field-0.0 c.from_residual.result (λ out x. inr x)
    (c.in_err-plain.ensures.files t) (c.in_err-plain.ensures.said t) c.from_residual.ensures.1

pub returns-in_err-report-clause-ends : goal.returns-in_err-report-clause-ends
returns-in_err-report-clause-ends g c = λ t.
    let a = c.args in
    let after : Files = g.S.Shelf.file c.plain_line.new.shelf in
    let o : Outside = outside (g.S.Shelf.file a.shelf.now) (g.S.Shelf.blames c.plain_line.new.shelf) in
    let name : Option (List ℕ) = option_map (λ n. n.now) a.name in
    let plain = c.in_ok-plain.plain in
    let P : Outcome → Type 0 = IsCycleOutcome o a.file.now a.kind a.stations a.plan.now name in
    let Q : Outcome → Type 0 = IsCutShort (least_cycle plain.naming a.kind plain.inst a.stations a.plan.now) in
    early o P Q after c.in_err-report.field-0.0 c.from_residual-in_err-report.result
    (λ out cut. inl (record {
      line = plain.inst;
      said = c.in_ok-plain.ensures.said t;
      answer = inr (rw (c.in_ok-plain.ensures.naming t) at cut);
    }))
    (c.in_ok-plain.ensures.files t) c.in_err-report.ensures.answer c.from_residual-in_err-report.ensures.1

pub write_certificate-requires : goal.write_certificate-requires
write_certificate-requires g c =
    let found = c.in_ok-report.ensures.answer in
    let sayable : IsInRange found.certificate =
    elim found.answer [ inl a ↦ a.1.proved.certified.sayable | inr a ↦ a.1.proved.certified.sayable ] in
    record {
      sayable = λ cert kept. let same : ◌≡◌ {A = Certificate} found.certificate cert = cc (found.keeps, kept) in
          subst IsInRange same sayable;
    }

pub returns-clause-ends : goal.returns-clause-ends
returns-clause-ends g c = λ t.
    let a = c.args in
    let files : Files = g.S.Shelf.file a.shelf.now in
    let after : Files = g.S.Shelf.file c.write_certificate.new.shelf in
    let o : Outside = outside files (g.S.Shelf.blames c.write_certificate.new.shelf) in
    let name : Option (List ℕ) = option_map (λ n. n.now) a.name in
    let line = c.in_ok-plain.plain.inst in
    let sought : Search = least_cycle (naming_of files a.file.now) a.kind line a.stations a.plan.now in
    let found = rw (c.in_ok-plain.ensures.naming t) at c.in_ok-report.ensures.answer in
    reported sought name c.in_ok-report.report found after c.write_certificate.result o
    (IsCycleOutcome o a.file.now a.kind a.stations a.plan.now name)
    (λ out is. inl (record { line = line; said = c.in_ok-plain.ensures.said t; answer = inl is }))
    (c.write_certificate.ensures.ends t files (c.in_ok-plain.ensures.files t) found.certificate found.keeps)

pub returns-clause-good : goal.returns-clause-good
returns-clause-good g c =
    let a = c.args in
    let plain = c.in_ok-plain.plain in
    handed_status (least_cycle plain.naming a.kind plain.inst a.stations a.plan.now) (option_map (λ n. n.now) a.name)
    c.in_ok-report.report c.in_ok-report.ensures.answer (g.S.Shelf.file c.write_certificate.new.shelf)
    c.write_certificate.result c.write_certificate.ensures.same

pub returns-clause-promise : goal.returns-clause-promise
returns-clause-promise g c = λ t.
    let a = c.args in
    let files : Files = g.S.Shelf.file a.shelf.now in
    let after : Files = g.S.Shelf.file c.write_certificate.new.shelf in
    let name : Option (List ℕ) = option_map (λ n. n.now) a.name in
    let line = c.in_ok-plain.plain.inst in
    let found = rw (c.in_ok-plain.ensures.naming t) at c.in_ok-report.ensures.answer in
    let sought : Search = least_cycle (naming_of files a.file.now) a.kind line a.stations a.plan.now in
    let F : Report → Type 0 = λ x. IsFiled sought name after x.status x.text.items x.kept in
    let P : Report → Type 0 = λ x. IsCyclePromised files after a.file.now a.kind a.stations a.plan.now name x.status
    x.text.items x.kept in
    IfOk-weaker c.write_certificate.result F P
    (λ x is. record { line = line; said = c.in_ok-plain.ensures.said t; filed = is })
    (filed sought name c.in_ok-report.report found after c.write_certificate.result c.write_certificate.ensures.same
    (c.write_certificate.ensures.certificate t))

pub returns-clause-fault : goal.returns-clause-fault
returns-clause-fault g c =
    may_end_as _ _ _ _ c.write_certificate.result (λ h. omega (arith, h, c.in_ok-plain.ensures.count))
    (λ h. omega (arith, h, c.in_ok-plain.ensures.writes)) c.write_certificate.ensures.fault
