use Rattle.std.proofs.Common.{◌∙◌, inl, subst, List, ℕ, Option, None}
use Rattle.command_outcome.specs.Outcome.{Files}
use Rattle.command_outcome.proofs.OutcomeFacts.{told_as}
use Rattle.input_files.specs.InputFile.{Reads, max_certificate}
use Rattle.input_files.specs.Certificate.{IsTextOf}
use Rattle.printed_verdict.specs.VerdictText.{verdict_text, verdict_status}
use Rattle.command_check.proofs.check.check_report.Goals as goal

pub returns-clause-ends : goal.returns-clause-ends
returns-clause-ends g c = λ t.
    let files : Files = g.S.Shelf.file c.args.shelf.now in
    let mid : Files = g.S.Shelf.file c.line_of.new.shelf in
    let proof : List ℕ = c.args.proof.now in
    let R : Option (List ℕ) → Type 0 = λ f. Reads max_certificate f (IsTextOf c.in_ok-cert.cert) in
    record {
      page = None;
      reached = inl (record {
        line = c.in_ok-inst.inst;
        cert = c.in_ok-cert.cert;
        found = c.verdict_of-verified.result;
        said = c.in_ok-inst.ensures.said t;
        read = subst R (c.in_ok-inst.ensures.files t proof) (c.in_ok-cert.ensures.said t);
        verdict = c.verdict_of-verified.ensures.verdict;
        accepted = c.verdict_of-verified.ensures.accepted;
        rejected = c.verdict_of-verified.ensures.rejected;
        true_bounds = c.verdict_of-verified.ensures.true_bounds;
        shown = told_as c.in_ok-report.report (verdict_status c.verdict_of-verified.result)
            (verdict_text c.in_ok-cert.cert c.verdict_of-verified.result) c.in_ok-report.ensures.status
            c.in_ok-report.ensures.text c.in_ok-report.ensures.kept;
      });
      written = λ q. c.in_ok-cert.ensures.files t q ∙ c.in_ok-inst.ensures.files t q;
    }
