use Rattle.std.proofs.Common.{inl, inr, subst, List, ℕ, Option, option_map}
use Rattle.command_outcome.specs.Outcome.{Files, Outside, Outcome, outside}
use Rattle.command_outcome.proofs.OutcomeFacts.{step_early}
use Rattle.input_files.specs.InputFile.{Reads, max_certificate}
use Rattle.input_files.specs.Instance.{IsNoLine}
use Rattle.input_files.specs.Certificate.{IsNoCertificate, IsTextOf}
use Rattle.command_draw.specs.Drawable.{HasShown, IsNotShown, IsUndrawable}
use Rattle.command_draw.specs.declared.shown.Shown.{Shown}
use Rattle.command_draw.proofs.DrawFacts.{line_given, right_of}
use Rattle.command_draw.proofs.shown.shown_of.Goals as goal

pub returns-in_err-line-clause-said : goal.returns-in_err-line-clause-said
returns-in_err-line-clause-said g c = λ t.
    let a = c.args in
    let apart : Option (List ℕ) = option_map (λ x. x.now) a.apart in
    let files : Files = g.S.Shelf.file a.shelf.now in
    let o : Outside = outside files (g.S.Shelf.blames c.listed_line.new.shelf) in
    step_early (IsNotShown o a.file.now a.proof.now apart) (IsNoLine o a.file.now apart)
    (λ (s : Shown). HasShown files a.file.now a.proof.now apart s.line.inst s.cert)
    c.in_err-line.field-0.0 c.from_residual.result (λ out x. inl x) (c.in_err-line.ensures.said t)
    c.from_residual.ensures.1

pub returns-in_err-cert-clause-said : goal.returns-in_err-cert-clause-said
returns-in_err-cert-clause-said g c = λ t.
    let a = c.args in
    let apart : Option (List ℕ) = option_map (λ x. x.now) a.apart in
    let files : Files = g.S.Shelf.file a.shelf.now in
    let mid : Files = g.S.Shelf.file c.listed_line.new.shelf in
    let blames = g.S.Shelf.blames c.certificate_of.new.shelf in
    let line = c.in_ok-line.line.inst in
    let F : Option (List ℕ) → Outcome → Type 0 = λ f. IsNoCertificate (outside (λ q. f) blames) a.proof.now in
    step_early (IsNotShown (outside files blames) a.file.now a.proof.now apart)
    (IsNoCertificate (outside mid blames) a.proof.now)
    (λ (s : Shown). HasShown files a.file.now a.proof.now apart s.line.inst s.cert)
    c.in_err-cert.field-0.0 c.from_residual-in_err-cert.result
    (λ out u. inr (inl (record {
      line = line;
      said = line_given files a.file.now apart line c.in_ok-line.line.cycle (c.in_ok-line.ensures.said t);
      unread = subst (λ f. F f out) (c.in_ok-line.ensures.files t a.proof.now) u;
    })))
    (c.in_err-cert.ensures.said t) c.from_residual-in_err-cert.ensures.1

pub returns-in_err-test-clause-said : goal.returns-in_err-test-clause-said
returns-in_err-test-clause-said g c = λ t.
    let a = c.args in
    let apart : Option (List ℕ) = option_map (λ x. x.now) a.apart in
    let files : Files = g.S.Shelf.file a.shelf.now in
    let o : Outside = outside files (g.S.Shelf.blames c.certificate_of.new.shelf) in
    let line = c.in_ok-line.line.inst in
    let cert = c.in_ok-cert.cert in
    let R : Option (List ℕ) → Type 0 = λ f. Reads max_certificate f (IsTextOf cert) in
    step_early (IsNotShown o a.file.now a.proof.now apart) (IsUndrawable line cert)
    (λ (s : Shown). HasShown files a.file.now a.proof.now apart s.line.inst s.cert)
    c.in_err-test.field-0.0 c.from_residual-in_err-test.result
    (λ out u. inr (inr (record {
      line = line;
      cert = cert;
      said = line_given files a.file.now apart line c.in_ok-line.line.cycle (c.in_ok-line.ensures.said t);
      read = subst R (c.in_ok-line.ensures.files t a.proof.now) (c.in_ok-cert.ensures.said t);
      refused = u;
    })))
    c.in_err-test.ensures.said c.from_residual-in_err-test.ensures.1

pub returns-clause-said : goal.returns-clause-said
returns-clause-said g c = λ t.
    let a = c.args in
    let cert = c.in_ok-cert.cert in
    let R : Option (List ℕ) → Type 0 = λ f. Reads max_certificate f (IsTextOf cert) in
    record {
      said = line_given (g.S.Shelf.file a.shelf.now) a.file.now (option_map (λ x. x.now) a.apart)
          c.in_ok-line.line.inst c.in_ok-line.line.cycle (c.in_ok-line.ensures.said t);
      read = subst R (c.in_ok-line.ensures.files t a.proof.now) (c.in_ok-cert.ensures.said t);
      drawable = c.in_ok-test.ensures.said;
    }

pub returns-clause-right : goal.returns-clause-right
returns-clause-right g c = right_of c.in_ok-line.line.inst c.in_ok-cert.cert c.in_ok-test.ensures.said
