use Rattle.std.proofs.Common.{option_map, inl, inr, arith, List, ℕ, Option}
use Rattle.command_outcome.specs.Found.{IsCutShort}
use Rattle.command_outcome.specs.Outcome.{Files, Outside, outside}
use Rattle.command_outcome.proofs.FoundFacts.{filed, handed_status, may_end_as, reported}
use Rattle.command_outcome.proofs.OutcomeFacts.{early}
use Rattle.command_solve.specs.Solution.{IsSolveOutcome}
use Rattle.command_solve.specs.inner.Said.{IsUnsaidOrUnwarmed, search_of}
use Rattle.command_solve.proofs.FoundFacts.{answered, promised, sayable}
use Rattle.command_solve.proofs.solution.solve_report.Goals as goal

pub returns-in_err-said-clause-ends : goal.returns-in_err-said-clause-ends
returns-in_err-said-clause-ends g c = λ t.
    let a = c.args in
    let apart : Option (List ℕ) = option_map (λ x. x.now) a.apart in
    let warm : Option (List ℕ) = option_map (λ x. x.now) a.warm in
    let name : Option (List ℕ) = option_map (λ x. x.now) a.name in
    let after : Files = g.S.Shelf.file c.said_of.new.shelf in
    let o : Outside = outside (g.S.Shelf.file a.shelf.now) (g.S.Shelf.blames c.said_of.new.shelf) in
    early o (IsSolveOutcome o a.file.now apart warm a.effort a.word a.kind a.plan.now name)
    (IsUnsaidOrUnwarmed o a.file.now apart warm a.word a.kind) after c.in_err-said.field-0.0 c.from_residual.result
    (λ out x. inr x) (c.in_err-said.ensures.files t) (c.in_err-said.ensures.said t) c.from_residual.ensures.1

pub returns-in_err-report-clause-ends : goal.returns-in_err-report-clause-ends
returns-in_err-report-clause-ends g c = λ t.
    let a = c.args in
    let apart : Option (List ℕ) = option_map (λ x. x.now) a.apart in
    let warm : Option (List ℕ) = option_map (λ x. x.now) a.warm in
    let name : Option (List ℕ) = option_map (λ x. x.now) a.name in
    let after : Files = g.S.Shelf.file c.said_of.new.shelf in
    let o : Outside = outside (g.S.Shelf.file a.shelf.now) (g.S.Shelf.blames c.said_of.new.shelf) in
    let it = c.in_ok-said in
    early o (IsSolveOutcome o a.file.now apart warm a.effort a.word a.kind a.plan.now name)
    (IsCutShort (search_of it.said a.kind a.effort a.plan.now)) after c.in_err-report.field-0.0
    c.from_residual-in_err-report.result
    (λ out u. answered o a.file.now apart warm a.effort a.word a.kind a.plan.now name it.said (it.ensures.said t)
    (it.ensures.naming t) out (inr u))
    (it.ensures.files t) c.in_err-report.ensures.answer c.from_residual-in_err-report.ensures.1

pub write_certificate-requires : goal.write_certificate-requires
write_certificate-requires g c = record {
  sayable = sayable c.in_ok-said.said c.args.kind c.args.effort c.args.plan.now c.in_ok-report.report
      c.in_ok-report.ensures.answer;
}

pub returns-clause-ends : goal.returns-clause-ends
returns-clause-ends g c = λ t.
    let a = c.args in
    let apart : Option (List ℕ) = option_map (λ x. x.now) a.apart in
    let warm : Option (List ℕ) = option_map (λ x. x.now) a.warm in
    let name : Option (List ℕ) = option_map (λ x. x.now) a.name in
    let files : Files = g.S.Shelf.file a.shelf.now in
    let o : Outside = outside files (g.S.Shelf.blames c.write_certificate.new.shelf) in
    let it = c.in_ok-said in
    let found = c.in_ok-report.ensures.answer in
    reported (search_of it.said a.kind a.effort a.plan.now) name c.in_ok-report.report found
    (g.S.Shelf.file c.write_certificate.new.shelf) c.write_certificate.result o
    (IsSolveOutcome o a.file.now apart warm a.effort a.word a.kind a.plan.now name)
    (λ out is. answered o a.file.now apart warm a.effort a.word a.kind a.plan.now name it.said (it.ensures.said t)
    (it.ensures.naming t) out (inl is))
    (c.write_certificate.ensures.ends t files (it.ensures.files t) found.certificate found.keeps)

pub returns-clause-good : goal.returns-clause-good
returns-clause-good g c =
    let a = c.args in
    handed_status (search_of c.in_ok-said.said a.kind a.effort a.plan.now) (option_map (λ x. x.now) a.name)
    c.in_ok-report.report c.in_ok-report.ensures.answer (g.S.Shelf.file c.write_certificate.new.shelf)
    c.write_certificate.result c.write_certificate.ensures.same

pub returns-clause-promise : goal.returns-clause-promise
returns-clause-promise g c = λ t.
    let a = c.args in
    let apart : Option (List ℕ) = option_map (λ x. x.now) a.apart in
    let warm : Option (List ℕ) = option_map (λ x. x.now) a.warm in
    let name : Option (List ℕ) = option_map (λ x. x.now) a.name in
    let after : Files = g.S.Shelf.file c.write_certificate.new.shelf in
    let o : Outside = outside (g.S.Shelf.file a.shelf.now) (g.S.Shelf.blames c.write_certificate.new.shelf) in
    let it = c.in_ok-said in
    let written = c.write_certificate in
    promised o a.file.now apart warm a.effort a.word a.kind a.plan.now name it.said (it.ensures.said t)
    (it.ensures.naming t) after written.result
    (filed (search_of it.said a.kind a.effort a.plan.now) name c.in_ok-report.report c.in_ok-report.ensures.answer after
    written.result written.ensures.same (written.ensures.certificate t))

pub returns-clause-fault : goal.returns-clause-fault
returns-clause-fault g c =
    may_end_as _ _ _ _ c.write_certificate.result (λ h. omega (arith, h, c.in_ok-said.ensures.count))
    (λ h. omega (arith, h, c.in_ok-said.ensures.writes)) c.write_certificate.ensures.fault
