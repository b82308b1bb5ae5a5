use Rattle.std.proofs.Common.{◌∙◌, inl, refl, subst, List, ℕ, Option, None}
use Rattle.command_outcome.specs.Outcome.{Files}
use Rattle.command_outcome.proofs.OutcomeFacts.{told_as}
use Rattle.input_files.specs.InputFile.{Reads, max_certificate}
use Rattle.text_grammar.specs.Texts.{Says}
use Rattle.effic_cert.specs.Faults.{products}
use Rattle.command_effic.specs.ProductText.{verdict_text, verdict_status}
use Rattle.command_effic.proofs.check.effic_check_report.Goals as goal

pub returns-clause-ends : goal.returns-clause-ends
returns-clause-ends g c = λ t.
    let files : Files = g.S.Shelf.file c.args.shelf.now in
    let proof : List ℕ = c.args.proof.now in
    let said = c.in_ok-said.said in
    let cert = said.cert in
    let found = c.verify_effic-verified.result in
    let R : Option (List ℕ) → Type 0 = λ f. Reads max_certificate f (λ bytes. Says products bytes said) in
    record {
      page = None;
      reached = inl (record {
        line = c.in_ok-plain.plain.inst;
        cert = cert;
        found = found;
        said = c.in_ok-plain.ensures.said t;
        read = (said, refl, subst R (c.in_ok-plain.ensures.files t proof) (c.in_ok-said.ensures.said t));
        verdict = c.verify_effic-verified.ensures.verdict;
        accepted = c.verify_effic-verified.ensures.accepted;
        rejected = c.verify_effic-verified.ensures.rejected;
        true_bounds = c.verify_effic-verified.ensures.true_bounds;
        shown = told_as c.in_ok-report.report (verdict_status found) (verdict_text cert found)
            c.in_ok-report.ensures.status c.in_ok-report.ensures.text c.in_ok-report.ensures.kept;
      });
      written = λ q. c.in_ok-said.ensures.files t q ∙ c.in_ok-plain.ensures.files t q;
    }
